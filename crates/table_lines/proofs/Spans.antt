-- A span of a line: what is left of the line stands there, within it. Assumes nothing.
use Prim.Native.Nat.{ℕ, ◌-◌, ◌≤◌}
use mathlib.Core.Path.{◌≡◌, sym, ap, ◌∙◌}
use mathlib.Core.{Bool.not, List.List, List.◌++◌}
use native.Mathlib.Omega.{arith}
use lib.ListN.{length, take, drop, length-append, length-drop, take-append-drop}
use lib.Seq.{take-append-le, drop-append-le, drop_at}
use Rattle.std.proofs.lemmas.List.Sums.{prefix_len-le-length}
use lib.Dec.{eqb}
use Rattle.table_lines.specs.Text.{uncommented, trim_front, content, content_span}
use Rattle.table_lines.proofs.Ends.{uncommented-upto, uncommented-length, front-le, end-le, end_take}
use Rattle.table_lines.proofs.Blanks.{trimmed}

-- a part of what stands in front
pub part-front : (p q : List ℕ) (i j : ℕ) → i ≤ j → j ≤ length p → take (j - i) (drop i (p ++ q)) ≡ take (j - i) (drop i p)
part-front p q i j h k = rw (drop-append-le i p q (omega arith)) (take-append-le (j - i) (drop i p) q (omega (arith, length-drop i p)))

front-drop : (l : List ℕ) → drop (length l - length (trim_front l)) l ≡ trim_front l
front-drop l = let t = trimmed l in let n : length t.0 ≡ length l - length (trim_front l) =
    omega (arith, ap length t.2, length-append t.0 (trim_front l)) in
    ap (drop (length l - length (trim_front l))) t.2 ∙ drop_at t.0 (trim_front l) (length l - length (trim_front l)) n

uncommented-le : (l : List ℕ) → length (uncommented l) ≤ length l
uncommented-le l = rw (uncommented-length l) (prefix_len-le-length (λ x. not (eqb x 35)) l)

-- a comment, where there is one, follows
pub commented : (l : List ℕ) → l ≡ uncommented l ++ drop (length (uncommented l)) l
commented l =
    let f : take (length (uncommented l)) l ≡ uncommented l = ap (λ (k : ℕ). take k l) (uncommented-length l) ∙ sym (uncommented-upto l) in
    sym (take-append-drop (length (uncommented l)) l) ∙ ap (◌++ drop (length (uncommented l)) l) f

module _ (l : List ℕ) where
  abbrev start : ℕ
  start = (content_span l).start

  abbrev end : ℕ
  end = (content_span l).end

  pub front-inside : length (trim_front (uncommented l)) ≤ length (uncommented l)
  front-inside = front-le (uncommented l)

  before-comment : end ≤ length (uncommented l)
  before-comment = omega (arith, front-inside, end-le (trim_front (uncommented l)))

  pub span-inside : end ≤ length l
  span-inside = omega (arith, before-comment, uncommented-le l)

  -- what is left of the line
  pub span-content : take (end - start) (drop start l) ≡ content l
  span-content =
      let n : end - start ≡ length (content l) = omega arith in
      ap (λ (x : List ℕ). take (end - start) (drop start x)) (commented l)
      ∙ part-front (uncommented l) (drop (length (uncommented l)) l) start end (omega arith) before-comment
      ∙ ap (take (end - start)) (front-drop (uncommented l))
      ∙ ap (λ (k : ℕ). take k (trim_front (uncommented l))) n
      ∙ end_take (trim_front (uncommented l))
