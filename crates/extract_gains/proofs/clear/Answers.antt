-- `extract_gains::clear` meets its contract: the number of entries and the heads are 0. Assumes nothing.
use mathlib.Core.Path.{◌≡◌, ◌∙◌}
use mathlib.Core.List.{List, ◌++◌}
use Prim.Native.Nat.{ℕ, ◌<◌, ◌≤◌}
use native.Mathlib.Omega.{arith}
use lib.ListN.{length, get_or, replicate, take, drop}
use borrow.Author.Rules.{rules}
use Rattle.std.proofs.Common.{length-append, length-drop}
use Rattle.std.proofs.lemmas.List.{get_or_append_left, get_or-replicate, length-replicate, length-take-le}
use Rattle.extract_gains.specs.Gains.{first}
use Rattle.extract_gains.proofs.Changing.{sound_empty}
use Rattle.extract_gains.proofs.clear.Goals as goal

-- the words of a part that was filled
filled : (n : ℕ) (xs ys : List ℕ) → xs ≡ replicate n 0 → (i : ℕ) → i < n → get_or (xs ++ ys) i 0 ≡ 0
filled n xs ys q i b = rw q (get_or_append_left (replicate n 0) ys 0 i (rw length-replicate b) ∙ get_or-replicate n i 0 0 b)

-- a part with the rest is as long as the whole was
rejoined : (n : ℕ) (t xs : List ℕ) → n ≤ length t → length xs ≡ length (take n t) → length (xs ++ drop n t) ≡ length t
rejoined n t xs b q = rw (length-append, q, length-take-le n t b, length-drop) (omega arith)

pub returns : goal.returns
returns c =
    sound_empty (rejoined first c.args.t.now _ (omega (arith, c.told-t)) c.fill.ensures.len ∙ c.told-t) c.told-g
    (λ i b.
    let long : length (take first c.args.t.now) ≡ first = length-take-le first c.args.t.now (omega (arith, c.told-t)) in
    filled _ _ _ (c.fill.ensures.after (λ y p. search rules)) i (rw long b))
