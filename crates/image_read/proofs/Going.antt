-- So many of the same kind, one after the other. Assumes nothing.
use Prim.Native.Nat.{ℕ, suc, ◌+◌, ◌-◌, ◌<◌, ◌≤◌}
use mathlib.Core.Path.{◌≡◌, refl, sym, ap, ◌∙◌}
use mathlib.Core.Bool.{Bool}
use mathlib.Core.List.{List, [], ◌∷◌, ◌++◌, append_assoc, append-nil}
use native.Mathlib.Omega.{arith}
use lib.ListN.{length, length-append}
use Rattle.image_laws.specs.Reading.{Parsed, got, bad, and_then, get_many}

module _ {A : Type 0} where
  -- what is read after these
  abbrev pub onto : List A → Parsed (List A) → Parsed (List A)
  onto p (got xs l) = got (p ++ xs) l
  onto p (bad k) = bad k

  pub onto-none : (g : Parsed (List A)) → onto [] g ≡ g
  onto-none (got xs l) = refl
  onto-none (bad k) = refl

  pub onto-more : (p : List A) (x : A) (g : Parsed (List A)) → onto p (and_then g (λ xs t. got (x ∷ xs) t)) ≡ onto (p ++ (x ∷ [])) g
  onto-more p x (got xs l) = ap (λ q. got q l) (sym (append_assoc p (x ∷ []) xs))
  onto-more p x (bad k) = refl

  -- i of k are read
  pub record Begun (f : List Bool → Parsed A) (k i : ℕ) (start l : List Bool) (read : List A) : Type 0 where
    pub number : length read ≡ i
    pub going : get_many f k start ≡ onto read (get_many f (k - i) l)

  module _ (f : List Bool → Parsed A) (k : ℕ) where
    pub going-none : (l : List Bool) → Begun f k 0 l l []
    going-none l = record { number = refl; going = sym (onto-none (get_many f (k - 0) l) ∙ ap (λ n. get_many f n l) (omega arith)) }

    module _ {i : ℕ} {start l : List Bool} {read : List A} (g : Begun f k i start l read) where
      opened : i < k → get_many f k start ≡ onto read (get_many f (suc (k - (i + 1))) l)
      opened more = let e : k - i ≡ suc (k - (i + 1)) = omega arith in g.going ∙ ap (λ n. onto read (get_many f n l)) e

      pub going-bad : i < k → (e : ℕ) → f l ≡ bad e → get_many f k start ≡ bad e
      unfolding get_many
      going-bad more e h = opened more ∙ rw h refl

      pub going_next : i < k → (x : A) (r : List Bool) → f l ≡ got x r → Begun f k (i + 1) start r (read ++ (x ∷ []))
      unfolding get_many
      going_next more x r h = record {
        number = omega (arith, length-append read (x ∷ []), g.number);
        going = opened more ∙ rw h (onto-more read x (get_many f (k - (i + 1)) r));
      }

      pub going_end : k ≤ i → get_many f k start ≡ got read l
      unfolding get_many
      going_end done = let e : k - i ≡ 0 = omega arith in g.going ∙ ap (λ n. onto read (get_many f n l)) e ∙ ap (λ p. got p l) (append-nil read)
