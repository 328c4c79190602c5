-- A line of a text is reached line by line, and what those before it have told is gathered. Assumes nothing.
use Rattle.std.proofs.Common.{◌≡◌, ℕ, suc, ◌+◌, ◌-◌, ◌<◌, ◌≤◌, Bool, true, false, cond, eqb, List, [], ◌∷◌, length, get_or, take, drop, sym, refl, ap, ◌∙◌, ap₂, arith, length-drop, drop_of_length-le, take_all}
use lib.ListN.{get_or-eq_default}
use Rattle.table_lines.specs.Text.{line_of, onto, lines_of, content}
use Rattle.table_lines.proofs.Lining.{line-le, lines_next, lines-last, line_after}
use Rattle.table_kinds.specs.{Kinds.kind_of, declared.Kind.Kind}
use Rattle.table_kinds.specs.declared.Kind.TheVariants.{Empty, Inputs, Outputs, Products, End, Other}
use Rattle.spindle.specs.declared.before.Seen.{Seen}
use Rattle.spindle.specs.Before.{unseen, by_kind, after, seen_in, Reaches}

-- one cube line is added at most
kind-more : (s : Seen) (k : Kind) → (by_kind s k).cubes ≤ s.cubes + 1
unfolding by_kind
kind-more s Empty = omega arith
kind-more s (Inputs n) = omega arith
kind-more s (Outputs n) = omega arith
kind-more s (Products n) = omega arith
kind-more s End = omega arith
kind-more s Other = omega arith

-- the first of the lines
first-line : (t : List ℕ) → get_or (lines_of t) 0 [] ≡ line_of t
unfolding line_of lines_of
first-line [] = refl
first-line (b ∷ t) = go (eqb b 10) (first-line t)
  where
    longer : (ls : List (List ℕ)) → get_or (onto b ls) 0 [] ≡ b ∷ get_or ls 0 []
    longer [] = refl
    longer (l ∷ ls) = refl

    go : (e : Bool) → get_or (lines_of t) 0 [] ≡ line_of t → get_or (cond e ([] ∷ lines_of t) (onto b (lines_of t))) 0 [] ≡ cond e [] (b ∷ line_of t)
    go true h = refl
    go false h = longer (lines_of t) ∙ ap (λ (l : List ℕ). b ∷ l) h

-- before line i of k, which begins at a byte of the text t
pub record Walks (t : List ℕ) (k i at : ℕ) (s : Seen) : Type 0 where
  pub few : s.cubes < i
  pub inside : at ≤ length t
  pub line : get_or (lines_of (drop at t)) (k - i) [] ≡ get_or (lines_of t) (k - 1) []
  pub told : seen_in s (take (k - i) (lines_of (drop at t))) ≡ seen_in unseen (take (k - 1) (lines_of t))

module _ (t : List ℕ) (k : ℕ) where
  pub walk_first : Walks t k 1 0 unseen
  walk_first = record { few = omega arith; inside = omega arith; line = refl; told = refl }

  module _ (i at : ℕ) (s : Seen) (w : Walks t k i at s) where
    pub walk-done : k ≤ i → Reaches t k (record { at = at; seen = s })
    unfolding seen_in
    walk-done h =
        let ls = lines_of (drop at t) in
        let z : 0 ≡ k - i = omega arith in
        record {
          inside = w.inside;
          line = sym (first-line (drop at t)) ∙ ap (λ (j : ℕ). get_or ls j []) z ∙ w.line;
          told = ap (λ (j : ℕ). seen_in s (take j ls)) z ∙ w.told;
        }

    module _ (e : ℕ) (q : e ≡ at + length (line_of (drop at t))) (u : Seen) (r : u ≡ after s (line_of (drop at t))) (h : i < k) where
      abbrev here : List ℕ
      here = line_of (drop at t)

      pub walk-next : e < length t → Walks t k (i + 1) (e + 1) u
      unfolding seen_in
      walk-next l =
          let ls = lines_of (drop (e + 1) t) in
          let j = k - (i + 1) in
          let z : suc j ≡ k - i = omega arith in
          let n : length here < length (drop at t) = omega (arith, length-drop at t) in
          let p : here ∷ ls ≡ lines_of (drop at t) = sym (lines_next (drop at t) n ∙ ap (λ (x : List ℕ). here ∷ lines_of x) (line_after t at e q)) in
          record {
            few = omega (arith, ap (λ (x : Seen). x.cubes) r, kind-more s (kind_of (content here)), w.few);
            inside = omega arith;
            line = ap₂ (λ (x : List (List ℕ)) (m : ℕ). get_or x m []) p z ∙ w.line;
            told = ap (λ (x : Seen). seen_in x (take j ls)) r ∙ ap₂ (λ (x : List (List ℕ)) (m : ℕ). seen_in s (take m x)) p z ∙ w.told;
          }

      pub walk-over : length t ≤ e → Reaches t k (record { at = length t; seen = u })
      unfolding line_of seen_in
      walk-over l =
          let ls = lines_of (drop at t) in
          let n : length here ≡ length (drop at t) = omega (arith, length-drop at t, line-le (drop at t), w.inside) in
          let p : here ∷ [] ≡ ls = sym (lines-last (drop at t) n) in
          let m : length ls ≤ k - i = omega (arith, ap length p) in
          let a : length t ≤ length t = omega arith in
          record {
            inside = omega arith;
            line = ap line_of (drop_of_length-le t a) ∙ sym (get_or-eq_default ls [] m) ∙ w.line;
            told = r ∙ ap (seen_in s) p ∙ ap (seen_in s) (sym (take_all (k - i) ls m)) ∙ w.told;
          }
