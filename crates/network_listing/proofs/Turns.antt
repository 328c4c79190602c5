-- The listing turn by turn: the next number by known literals, and what the turns made so far leave to be made. Assumes nothing.
use Prim.Native.Nat.{ℕ, zero, suc, ◌+◌, ◌-◌, ◌<◌, ◌≤◌}
use mathlib.Core.Path.{◌≡◌, refl, sym, ap, ap₂, ◌∙◌, subst}
use mathlib.Core.Bool.{Bool, true, false, not, ◌&&◌}
use mathlib.Core.List.Memᴰ.{head as here}
use mathlib.Core.List.Memᴰ.{tail as there}
use mathlib.Core.List.{List, [], ◌∷◌, ◌++◌}
use mathlib.Core.Option.{none, some}
use mathlib.Core.Logic.{inl, inr}
use Rattle.std.proofs.Common.{Option, None, Some, MatchOption, add-zero, min}
use Rattle.std.specs.List.{find, enumerate_from}
use Rattle.sets.{specs.Word.largest, proofs.Truth.decided}
use native.Mathlib.Omega.{arith}
use native.Mathlib.Numerals.{add-one}
use lib.ListN.{length, take, drop, set, replicate, length-set, take-append-drop}
use lib.Seq.{length-take-le, take-suc-set, drop-set-lt, drop-drop}
use Rattle.sets.{specs.Literal.plain_of, specs.Sets.mem, specs.Sets.insert, proofs.Lists.◌∈◌}
use Rattle.network.{specs.Net.Node, specs.Net.Net, proofs.Listings.more-none, proofs.Listings.more-some}
use Rattle.network.specs.Held.{most_variables, number_at, numbered}
use Rattle.network.specs.Listing.{next_ready, list_more, listing}
use Rattle.network_known.specs.Known.{every_within, BothWays, signed}
use Rattle.network_known.proofs.Knowing.{spans-listed}
use Rattle.network_listing.specs.Parts.{next_in, PaddedList}
use Rattle.network_listing.proofs.Reaching.{within-ready, plain-listed}

-- ---- the next number

-- the first that a test finds among the divisors and their places is the next
module _ (k : List ℕ) (n : ℕ) where
  abbrev pub passes : ℕ × List (List ℕ) → Bool
  passes p = not (mem (plain_of (min (number_at n p.0) largest)) k) && every_within k p.1

  next-from : (i : ℕ) (fs : List (List (List ℕ))) → n + i + length fs ≤ largest → MatchOption (find passes (enumerate_from i fs))
      (next_in k (numbered (n + i) fs) ≡ none)
      (λ p. next_in k (numbered (n + i) fs) ≡ some (min (number_at n p.0) largest))
  unfolding next_in numbered
  next-from i [] h = refl
  next-from i (f ∷ fs) h =
      let e : min (n + i) largest ≡ n + i = omega arith in
      let q : n + (i + 1) ≡ suc (n + i) = omega arith in
      rw e (elim (decided (not (mem (plain_of (n + i)) k) && every_within k f)) [
        | inl t ↦ rw t (ap some (sym e))
        | inr t ↦ rw t (subst
            (λ x. MatchOption (find passes (enumerate_from (i + 1) fs)) (next_in k (numbered x fs) ≡ none)
            (λ p. next_in k (numbered x fs) ≡ some (min (number_at n p.0) largest)))
            q (next-from (i + 1) fs (omega arith)))
      ])

  module _ (fs : List (List (List ℕ))) (h : n + length fs ≤ largest) {r : Option (ℕ × List (List ℕ))} (e : r ≡ find passes (enumerate_from 0 fs)) where
    next-first : MatchOption r (next_in k (numbered n fs) ≡ none) (λ p. next_in k (numbered n fs) ≡ some (min (number_at n p.0) largest))
    next-first = rw e (subst
        (λ x. MatchOption (find passes (enumerate_from 0 fs)) (next_in k (numbered x fs) ≡ none)
        (λ p. next_in k (numbered x fs) ≡ some (min (number_at n p.0) largest)))
        (add-zero n) (next-from 0 fs (omega arith)))

    pub next-none : r ≡ None → next_in k (numbered n fs) ≡ none
    next-none q = rw q at next-first

    pub next-found : {p : ℕ × List (List ℕ)} → r ≡ Some p → next_in k (numbered n fs) ≡ some (min (number_at n p.0) largest)
    next-found q = rw q at next-first

-- known literals give the next number of the definition
pub next-ready : (n : ℕ) (listed k : List ℕ) → BothWays n listed k → (ds : List Node) → ((e : Node) → e ∈ ds → n ≤ e.number)
    → next_in k ds ≡ next_ready n listed ds
unfolding next_in next_ready
next-ready n listed k s [] h = refl
next-ready n listed k s (e ∷ ds) h = rw
    (plain-listed n listed k s e.number (h e (here refl)), within-ready n listed k s e.cubes, next-ready n listed k s ds (λ g m. h g (there m)))

-- ---- the turns

-- what is listed so far, in an order of as many places as there may be variables, and the literals of what is known; the turns that are left make the listing
pub record Turn (net : Net) (todo : ℕ) (order : List ℕ) (count : ℕ) (k : List ℕ) : Type 0 where
  pub whole : length order ≡ most_variables
  pub rest : drop count order ≡ replicate (most_variables - count) 0
  pub spans : BothWays net.inputs (take count order) k
  pub going : list_more todo net (take count order) ≡ listing net

pub turn-first : (net : Net) (todo : ℕ) (k : List ℕ) → todo ≡ length net.divisors → BothWays net.inputs [] k
    → Turn net todo (replicate most_variables 0) 0 k
unfolding listing
turn-first net todo k e s = record { whole = refl; rest = refl; spans = s; going = rw e }

module _ (net : Net) (order : List ℕ) (count : ℕ) (k : List ℕ) where
  module _ (todo : ℕ) (h : count < most_variables) (t : Turn net (suc todo) order count k) (v : ℕ)
      (e : next_ready net.inputs (take count order) net.divisors ≡ some v) where
    pub turn_more : (b : List ℕ) → b ≡ insert (signed v false) (insert (signed v true) k) → Turn net todo (set order count v) (count + 1) b
    turn_more b q =
        let w : take (count + 1) (set order count v) ≡ take count order ++ (v ∷ []) = rw (add-one count)
        (take-suc-set order count v (omega (arith, t.whole))) in
        record {
          whole = length-set order count v ∙ t.whole;
          rest = drop-set-lt (count + 1) order count v (omega arith) ∙ sym (drop-drop 1 count order) ∙ ap (drop 1) t.rest
              ∙ less (most_variables - count) (most_variables - (count + 1)) (omega arith);
          spans = rw w (spans-listed v k b q net.inputs (take count order) t.spans);
          going = rw w (sym (more-some todo net (take count order) v e) ∙ t.going);
        }
      where
        less : (x y : ℕ) → x ≡ suc y → drop 1 (replicate {A = ℕ} x 0) ≡ replicate y 0
        less x y z = rw z

  -- the listing is what is listed so far
  closed : count ≤ most_variables → length order ≡ most_variables → drop count order ≡ replicate (most_variables - count) 0 → take count order ≡ listing net
      → PaddedList (listing net) count order
  closed h w r e =
      let n : count ≡ length (listing net) = sym (length-take-le count order (omega arith)) ∙ ap length e in
      record { number = n; places = sym (take-append-drop count order) ∙ ap₂ ◌++◌ e (r ∙ ap (λ x. replicate (most_variables - x) 0) n) }

  module _ (todo : ℕ) (h : count ≤ most_variables) (t : Turn net todo order count k) where
    pub turn-none : next_ready net.inputs (take count order) net.divisors ≡ none → PaddedList (listing net) count order
    unfolding list_more
    turn-none e = closed h t.whole t.rest (go todo t.going)
      where
        go : (x : ℕ) → list_more x net (take count order) ≡ listing net → take count order ≡ listing net
        go zero p = p
        go (suc x) p = sym (more-none x net (take count order) e) ∙ p

    pub turn_last : todo ≡ 0 → PaddedList (listing net) count order
    unfolding list_more
    turn_last e = closed h t.whole t.rest (subst (λ x. list_more x net (take count order) ≡ listing net) e t.going)
