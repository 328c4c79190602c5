-- Lines, and what is left of one, in the paper's words: what is parted is what is written, and what is written is parted so. Assumes nothing.
use Prim.Native.Nat.{ℕ, ◌≤◌}
use mathlib.Core.Path.{◌≡◌, refl, sym, ap, ◌∙◌, subst}
use mathlib.Core.Logic.{◌↔◌}
use mathlib.Core.Bool.{Bool, true, false, cond, not, ◌&&◌, and-false}
use mathlib.Core.List.{List, [], ◌∷◌, ◌++◌, append-nil}
use native.Mathlib.Omega.{arith}
use lib.Dec.{eqb}
use lib.ListN.{length, drop}
use borrow.Author.Tests.{eqb-true, not-true}
use Rattle.sets.specs.Lists.{all, is_nil}
use Rattle.sets.proofs.Truth.{both, together}
use Rattle.table_lines.specs.Text.{is_blank, starts_blank, onto, lines_of, uncommented, trim_front, trim_end, content}
use Rattle.table_lines.specs.Meaning.{lacks, joined, Lines, ends_blank, is_comment, Leaves}
use Rattle.table_lines.proofs.{Blanks.trimmed, Blanks.front-blanks, Spans.commented}

-- the first byte of what lacks b, and the others
pub lacks-first : (b x : ℕ) (l : List ℕ) → lacks b (x ∷ l) ≡ true → (eqb x b ≡ false) × (lacks b l ≡ true)
lacks-first b x l h = let w = both (not (eqb x b)) (lacks b l) h in (not-true (eqb x b) w.0, w.1)

-- ---- lines

longer : (b : ℕ) (l : List ℕ) (ls : List (List ℕ)) → b ∷ joined (l ∷ ls) ≡ joined ((b ∷ l) ∷ ls)
unfolding joined
longer b l [] = refl
longer b l (m ∷ ls) = refl

lines-out : (t : List ℕ) → Lines t (lines_of t)
unfolding lines_of joined
lines-out [] = record { one = omega arith; each = refl; text = refl }
lines-out (b ∷ t) = go (eqb b 10) refl (lines_of t) (lines-out t)
  where
    go : (e : Bool) → eqb b 10 ≡ e → (ls : List (List ℕ)) → Lines t ls → Lines (b ∷ t) (cond e ([] ∷ ls) (onto b ls))
    go e q [] w = absurd (omega (arith, w.one))
    go true q (l ∷ ls) w = record { one = omega arith; each = w.each; text = rw (eqb-true b 10 q) (ap (λ (x : List ℕ). 10 ∷ x) w.text) }
    go false q (l ∷ ls) w = record { one = omega arith; each = rw q w.each; text = ap (λ (x : List ℕ). b ∷ x) w.text ∙ longer b l ls }

-- a line up to an LF, and the last
line-more : (l r : List ℕ) → lacks 10 l ≡ true → lines_of (l ++ (10 ∷ r)) ≡ l ∷ lines_of r
unfolding lines_of
line-more [] r h = refl
line-more (b ∷ l) r h = let w = lacks-first 10 b l h in rw w.0 (ap (onto b) (line-more l r w.1))

line-last : (l : List ℕ) → lacks 10 l ≡ true → lines_of l ≡ l ∷ []
unfolding lines_of
line-last [] h = refl
line-last (b ∷ l) h = let w = lacks-first 10 b l h in rw w.0 (ap (onto b) (line-last l w.1))

lines-in : (ls : List (List ℕ)) → 1 ≤ length ls → all (lacks 10) ls ≡ true → lines_of (joined ls) ≡ ls
unfolding joined
lines-in [] n h = absurd (omega arith)
lines-in (l ∷ []) n h = line-last l (both (lacks 10 l) true h).0
lines-in (l ∷ m ∷ ls) n h = let w = both (lacks 10 l) (all (lacks 10) (m ∷ ls)) h in
    line-more l (joined (m ∷ ls)) w.0 ∙ ap (λ (x : List (List ℕ)). l ∷ x) (lines-in (m ∷ ls) (omega arith) w.1)

-- lines end at LF or at the end of the text
pub lines-iff : (t : List ℕ) (ls : List (List ℕ)) → (lines_of t ≡ ls) ↔ Lines t ls
lines-iff t ls = (λ e. subst (Lines t) e (lines-out t), λ w. ap lines_of w.text ∙ lines-in ls w.one w.each)

-- ---- the comment

plain_out : (l : List ℕ) → lacks 35 (uncommented l) ≡ true
unfolding uncommented
plain_out [] = refl
plain_out (b ∷ l) = go (eqb b 35) refl (plain_out l)
  where
    go : (e : Bool) → eqb b 35 ≡ e → lacks 35 (uncommented l) ≡ true → lacks 35 (cond e [] (b ∷ uncommented l)) ≡ true
    go true q h = refl
    go false q h = rw q h

comment-out : (l : List ℕ) → is_comment (drop (length (uncommented l)) l) ≡ true
unfolding uncommented
comment-out [] = refl
comment-out (b ∷ l) = go (eqb b 35) refl (comment-out l)
  where
    go : (e : Bool) → eqb b 35 ≡ e → is_comment (drop (length (uncommented l)) l) ≡ true
        → is_comment (drop (length (cond e [] (b ∷ uncommented l))) (b ∷ l)) ≡ true
    go true q h = q
    go false q h = h

comment-in : (p k : List ℕ) → lacks 35 p ≡ true → is_comment k ≡ true → uncommented (p ++ k) ≡ p
unfolding uncommented
comment-in [] [] h q = refl
comment-in [] (b ∷ k) h q = rw q
comment-in (b ∷ p) k h q = let w = lacks-first 35 b p h in rw w.0 (ap (λ (x : List ℕ). b ∷ x) (comment-in p k w.1 q))

-- ---- the blanks at both ends

pub front-starts : (r : List ℕ) → starts_blank (trim_front r) ≡ false
unfolding trim_front
front-starts [] = refl
front-starts (x ∷ r) = go (is_blank x) refl (front-starts r)
  where
    go : (e : Bool) → is_blank x ≡ e → starts_blank (trim_front r) ≡ false → starts_blank (cond e (trim_front r) (x ∷ r)) ≡ false
    go true q h = h
    go false q h = q

pub end-starts : (r : List ℕ) → starts_blank r ≡ false → starts_blank (trim_end r) ≡ false
unfolding trim_end
end-starts [] h = refl
end-starts (x ∷ r) h = rw h h

pub end-ends : (r : List ℕ) → ends_blank (trim_end r) ≡ false
unfolding trim_end
end-ends [] = refl
end-ends (x ∷ r) = go (is_blank x) refl (trim_end r) (end-ends r)
  where
    go : (e : Bool) → is_blank x ≡ e → (f : List ℕ) → ends_blank f ≡ false → ends_blank (cond (e && is_nil f) [] (x ∷ f)) ≡ false
    go true q [] h = refl
    go false q [] h = q
    go true q (y ∷ f) h = h
    go false q (y ∷ f) h = h

-- what is trimmed at the end is blanks
pub end-out : (r : List ℕ) → (b : List ℕ) × (all is_blank b ≡ true) × (r ≡ trim_end r ++ b)
unfolding trim_end
end-out [] = ([], refl, refl)
end-out (x ∷ r) = go (is_blank x) refl (trim_end r) (end-out r)
  where
    go : (e : Bool) → is_blank x ≡ e → (f : List ℕ) → (b : List ℕ) × (all is_blank b ≡ true) × (r ≡ f ++ b)
        → (b : List ℕ) × (all is_blank b ≡ true) × (x ∷ r ≡ cond (e && is_nil f) [] (x ∷ f) ++ b)
    go true q [] t = (x ∷ t.0, together (is_blank x) (all is_blank t.0) q t.1, ap (λ (l : List ℕ). x ∷ l) t.2)
    go true q (y ∷ f) t = (t.0, t.1, ap (λ (l : List ℕ). x ∷ l) t.2)
    go false q f t = (t.0, t.1, ap (λ (l : List ℕ). x ∷ l) t.2)

end-in : (c b : List ℕ) → ends_blank c ≡ false → all is_blank b ≡ true → trim_end (c ++ b) ≡ c
unfolding trim_end
end-in [] [] h k = refl
end-in [] (x ∷ b) h k = let w = both (is_blank x) (all is_blank b) k in rw (w.0, end-in [] b h w.1)
end-in (x ∷ []) b h k = rw (h, end-in [] b refl k)
end-in (x ∷ y ∷ c) b h k = ap (λ (f : List ℕ). cond (is_blank x && is_nil f) [] (x ∷ f)) (end-in (y ∷ c) b h k) ∙ rw (and-false (is_blank x))

pub ends-in : (c b : List ℕ) → starts_blank c ≡ false → ends_blank c ≡ false → all is_blank b ≡ true → trim_end (trim_front (c ++ b)) ≡ c
unfolding trim_front trim_end
ends-in [] b h e k = ap trim_end (ap trim_front (sym (append-nil b)) ∙ front-blanks b [] k)
ends-in (x ∷ c) b h e k = rw h (end-in (x ∷ c) b e k)

-- ---- what is left

leaves-out : (l : List ℕ) → Leaves l (content l)
leaves-out l =
    let f = trimmed (uncommented l) in
    let b = end-out (trim_front (uncommented l)) in
    let k = drop (length (uncommented l)) l in
    let u : uncommented l ≡ f.0 ++ (content l ++ b.0) = f.2 ∙ ap (f.0 ++◌) b.2 in
    record {
      front = f.0;
      back = b.0;
      comment = k;
      text = commented l ∙ ap (◌++ k) u;
      before = f.1;
      after = b.1;
      plain = subst (λ (x : List ℕ). lacks 35 x ≡ true) u (plain_out l);
      hash = comment-out l;
      starts = end-starts (trim_front (uncommented l)) (front-starts (uncommented l));
      ends = end-ends (trim_front (uncommented l));
    }

leaves_in : {l c : List ℕ} → Leaves l c → content l ≡ c
leaves_in {l} {c} w =
    ap content w.text
    ∙ ap (λ (x : List ℕ). trim_end (trim_front x)) (comment-in (w.front ++ (c ++ w.back)) w.comment w.plain w.hash)
    ∙ ap trim_end (front-blanks w.front (c ++ w.back) w.before)
    ∙ ends-in c w.back w.starts w.ends w.after

-- `#` starts a comment, and c is left after the comment and the blanks at both ends are removed
pub content-iff : (l c : List ℕ) → (content l ≡ c) ↔ Leaves l c
content-iff l c = (λ e. subst (Leaves l) e (leaves-out l), leaves_in)
