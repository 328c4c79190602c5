-- What a writer answers: a refusal before, 9, or the whole text; and no two answers differ. Assumes nothing.
use Prim.Native.Nat.{ℕ, ◌<◌, ◌≤◌}
use mathlib.Core.Path.{◌≡◌, refl, sym, ◌∙◌, ap}
use mathlib.Core.List.{List, ◌++◌}
use mathlib.Core.Option.{Option, none, some}
use lib.ListN.{length, drop}
use borrow.Author.Tests.{lt-ltb, le-ltb}
use Rattle.letters.specs.Told.{or_long, Answered, Told}
use Rattle.letters.specs.declared.{Wrote.Wrote, Wrote.TheVariants.Bytes, Wrote.TheVariants.Refused}

pub told-before : (t o : List ℕ) (k : ℕ) → Told (some k) t o o (Refused k)
unfolding or_long
told-before t o k = (refl, refl)

pub told-long : (t o o' : List ℕ) → length o < length t → o' ≡ o → Told none t o o' (Refused 9)
unfolding or_long
told-long t o o' l e = rw (lt-ltb (length o) (length t) l) (refl, e)

pub told-whole : (t o o' : List ℕ) (n : ℕ) → length t ≤ length o → n ≡ length t → o' ≡ t ++ drop (length t) o → Told none t o o' (Bytes n)
unfolding or_long
told-whole t o o' n l e w = rw (le-ltb (length o) (length t) l) (ap Bytes e, w)

-- an answer and a room that were told are the only ones
pub told-one : (q : Option ℕ) (t o o₁ o₂ : List ℕ) (a b : Wrote) → Told q t o o₁ a → Told q t o o₂ b → (a ≡ b) × (o₁ ≡ o₂)
told-one q t o o₁ o₂ a b p r = go (or_long q t o) p r
  where
    go : (q : Option ℕ) → Answered q t o o₁ a → Answered q t o o₂ b → (a ≡ b) × (o₁ ≡ o₂)
    go (some k) p r = (p.0 ∙ sym r.0, p.1 ∙ sym r.1)
    go none p r = (p.0 ∙ sym r.0, p.1 ∙ sym r.1)
