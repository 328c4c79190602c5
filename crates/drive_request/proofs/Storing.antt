-- Values stored one after another: what is stored and counted of those that are left gives what is stored and counted of all. Assumes nothing.
use Prim.Native.Nat.{ℕ, suc, ◌+◌, ◌<◌, ◌≤◌}
use mathlib.Core.Path.{◌≡◌, refl, sym, ◌∙◌}
use mathlib.Core.List.{List, [], ◌∷◌}
use Rattle.std.specs.Prelude.{Option, None, Some, IfSome}
use native.Mathlib.Numerals.{add-one}
use native.Mathlib.Omega.{arith}
use lib.ListN.{length, set, length-set}
use lib.Seq.{sets, set_out}
use mathlib.Core.Logic.{inl, inr}
use lib.Dec.{ltb}
use Rattle.sets.proofs.{Truth.decided}
use borrow.Author.Tests.{ltb-true, lt-ltb, le-ltb}
use Rattle.drive_request.specs.Reading.{values_of, count_of, Stored}

-- of the values all, those of left are due from n on
pub record Storing (old new : List ℕ) (n : ℕ) (left all : List (Option ℕ)) : Type 0 where
  pub size : length new ≡ length old
  pub answer : count_of (length old) n left ≡ count_of (length old) 0 all
  pub bytes : sets new n (values_of left) ≡ sets old 0 (values_of all)

sets-out : (vs l : List ℕ) (n : ℕ) → length l ≤ n → sets l n vs ≡ l
sets-out [] l n h = refl
sets-out (v ∷ vs) l n h = sets-out vs (set l n v) (suc n) (rw length-set (omega arith)) ∙ set_out l n v h

pub storing-all : (old : List ℕ) (all : List (Option ℕ)) → Storing old old 0 all all
storing-all old all = record { size = refl; answer = refl; bytes = refl }

module _ {old new : List ℕ} {n : ℕ} {all : List (Option ℕ)} where
  pub storing-as : {left now : List (Option ℕ)} → left ≡ now → Storing old new n left all → Storing old new n now all
  storing-as e s = rw e at s

  -- one is none
  pub storing-none : {left : List (Option ℕ)} → Storing old new n (None ∷ left) all → Stored old new None all
  unfolding values_of count_of
  storing-none s = record { answer = s.answer; bytes = s.bytes }

  pub storing-done : Storing old new n [] all → Stored old new (Some n) all
  unfolding values_of count_of
  storing-done s = record { answer = s.answer; bytes = s.bytes }

  module _ {v : ℕ} {left : List (Option ℕ)} (s : Storing old new n (Some v ∷ left) all) where
    pub storing-full : length new ≤ n → Stored old new None all
    unfolding values_of count_of
    storing-full h = record {
      answer = rw (le-ltb n (length old) (omega (arith, s.size))) at s.answer;
      bytes = sym (sets-out (values_of (Some v ∷ left)) new n h) ∙ s.bytes;
    }

    pub storing-next : n < length new → Storing old (set new n v) (n + 1) left all
    unfolding values_of count_of
    storing-next h = record {
      size = length-set new n v ∙ s.size;
      answer = rw add-one (rw (lt-ltb n (length old) (omega (arith, s.size))) at s.answer);
      bytes = rw add-one s.bytes;
    }

-- no more are counted than there is room for
count-within : (room n : ℕ) (os : List (Option ℕ)) → n ≤ room → IfSome (count_of room n os) (λ k. k ≤ room)
unfolding count_of
count-within room n [] h = h
count-within room n (None ∷ os) h = tt
count-within room n (Some v ∷ os) h = elim (decided (ltb n room)) [
  | inl t ↦ rw t (count-within room (suc n) os (omega (arith, ltb-true n room t)))
  | inr f ↦ rw f tt
]

pub stored-within : {old new : List ℕ} {r : Option ℕ} {os : List (Option ℕ)} → Stored old new r os → IfSome r (λ n. n ≤ length old)
stored-within {old} {os = os} s = rw (s.answer) (count-within (length old) 0 os (omega arith))
