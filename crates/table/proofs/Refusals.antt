-- When a table is accepted, and when it is refused, by which number, at which line and column. Assumes nothing.
use Prim.Native.Nat.{ℕ, suc, ◌+◌, ◌<◌, ◌≤◌}
use mathlib.Core.Path.{◌≡◌, refl, sym, ap, ◌∙◌, subst}
use mathlib.Core.Logic.{◌⊎◌, inl, inr, ⊎_elim, ◌↔◌}
use mathlib.Core.Bool.{true, false}
use mathlib.Core.List.{List, [], ◌∷◌, ◌++◌, append-nil}
use mathlib.Core.Option.{Option, none, some}
use native.Mathlib.Omega.{arith}
use lib.Dec.{leb, ltb}
use lib.ListN.{length, length-append}
use borrow.Author.Tests.{leb-true, ltb-true, ltb-false, lt-ltb, le-ltb}
use Rattle.sets.specs.Sets.{mem}
use Rattle.sets.proofs.Truth.{both, clash, decided}
use Rattle.network.specs.Held.{most_inputs, most_outputs}
use Rattle.table_lines.specs.Text.{lines_of, content}
use Rattle.table.specs.Table.{State, start, Turn, next, done, refuse, missing, read_line, Outcome, accepted, refused, refused_at}
use Rattle.table.specs.Table.{column_at, read_lines, read_text, most_bytes}
use Rattle.table.specs.Meaning.{within, Bounded, is_line, Complete, Goes, Closes, Does, going, closing, refusing, Comes}
use Rattle.table.specs.Meaning.{Reads, nothing, line, Ended, whole, stopped, short}
use Rattle.table.{specs.declared.Refusal.Refusal, proofs.Pointing.points-iff, proofs.Pointing.points-from}
use Rattle.table.proofs.Going.{start-bounded, goes-bounded, read-bounded}
use Rattle.table.proofs.Reasons.{line_does, next-iff, done-iff, refuse-iff, refuses-line}

none-one : is_line 1 ≡ false
unfolding mem
none-one = refl

-- ---- how lines are read in turn

pub lines-turn : (k : ℕ) (l : List ℕ) (ls : List (List ℕ)) (s : State) {p : Turn} → read_line l s ≡ p
    → read_lines k (l ∷ ls) s ≡ elim p [ next t ↦ read_lines (suc k) ls t | done t ↦ accepted t | refuse r ↦ refused_at r k (column_at s l r) ]
unfolding read_lines
lines-turn k l ls s e = rw (e, read_lines)

pub lines_end : (k : ℕ) (s : State) → read_lines k [] s ≡ refused_at 5 0 0
unfolding read_lines
lines_end k s = refl

pub lines-ended : (k : ℕ) (ls : List (List ℕ)) (s : State) → Bounded s → Ended k s ls (read_lines k ls s)
lines-ended k [] s g = rw lines_end (short [] nothing)
lines-ended k (l ∷ ls) s g = go (read_line l s) refl (line_does l s) (λ t b. lines-ended (suc k) ls t b)
  where
    more : {t : State} {ms : List (List ℕ)} {o : Outcome} → Goes s (content l) t → Ended (suc k) t ms o → Ended k s (l ∷ ms) o
    more d (whole a x b r e) = whole (l ∷ a) x b (line d r) e
    more d (stopped a x b {r = q} {c = c} r e p) =
        let i : k + length (l ∷ a) ≡ suc k + length a = omega arith in
        subst (λ (z : ℕ). Ended k s (l ∷ (a ++ (x ∷ b))) (refused_at q z c)) i (stopped (l ∷ a) x b (line d r) e p)
    more d (short a r) = short (l ∷ a) (line d r)

    go : (p : Turn) → read_line l s ≡ p → Does s (content l) p → ((t : State) → Bounded t → Ended (suc k) t ls (read_lines (suc k) ls t))
        → Ended k s (l ∷ ls) (read_lines k (l ∷ ls) s)
    go (next t) e (going d) f = rw (lines-turn k l ls s e) (more d (f t (goes-bounded g d)))
    go (done t) e (closing d) f = rw (lines-turn k l ls s e) (whole [] l ls nothing d)
    go (refuse r) e (refusing d) f =
        let c = column_at s l r in
        let i : k + 0 ≡ k = omega arith in
        rw (lines-turn k l ls s e)
        (subst (λ (z : ℕ). Ended k s (l ∷ ls) (refused_at r z c)) i (stopped [] l ls nothing d ((points-iff l s r c g d).0 refl)))

-- and there is no other outcome
reads_on : (k : ℕ) {s t : State} (ls ms : List (List ℕ)) → Reads s ls t → read_lines k (ls ++ ms) s ≡ read_lines (k + length ls) ms t
reads_on k ls ms nothing = let e : k + 0 ≡ k = omega arith in rw e
reads_on k (l ∷ ls) ms (line {s = s} {t = t} {u = u} g r) = let c : suc k + length ls ≡ k + length (l ∷ ls) = omega arith in
    lines-turn k l (ls ++ ms) s ((next-iff l s t).1 g) ∙ reads_on (suc k) ls ms r ∙ ap (λ (z : ℕ). read_lines z ms u) c

pub ended-lines : (k : ℕ) {s : State} {ls : List (List ℕ)} {o : Outcome} → Bounded s → Ended k s ls o → read_lines k ls s ≡ o
ended-lines k g (whole a l b {t = t} r d) = reads_on k a (l ∷ b) r ∙ lines-turn (k + length a) l b t ((done-iff l t t).1 (refl, d))
ended-lines k g (stopped a l b {t = t} {r = q} {c = c} r d p) =
    reads_on k a (l ∷ b) r ∙ lines-turn (k + length a) l b t ((refuse-iff l t q).1 d)
    ∙ ap (refused_at q (k + length a)) ((points-iff l t q c (read-bounded r g) d).1 p)
ended-lines k {s = s} g (short a {t = t} r) =
    ap (λ (z : List (List ℕ)). read_lines k z s) (sym (append-nil a)) ∙ reads_on k a [] r ∙ lines_end (k + length a) t

-- ---- a whole text

pub text-long : (t : List ℕ) → most_bytes < length t → read_text t ≡ refused_at 1 0 0
unfolding read_text
text-long t h = rw (lt-ltb most_bytes (length t) h)

pub text-lines : (t : List ℕ) → length t ≤ most_bytes → read_text t ≡ read_lines 1 (lines_of t) start
unfolding read_text
text-lines t h = rw (le-ltb most_bytes (length t) h)

-- 1 is tested first, then lines in turn
pub outcome-iff : (t : List ℕ) (o : Outcome) → (read_text t ≡ o) ↔ Comes t o
outcome-iff t o = (into, back)
  where
    into : read_text t ≡ o → Comes t o
    into e = elim (decided (ltb most_bytes (length t))) [
      | inl h ↦ (let k = ltb-true most_bytes (length t) h in inl (k, sym e ∙ text-long t k))
      | inr h ↦ (let k = ltb-false most_bytes (length t) h in
          inr (k, subst (Ended 1 start (lines_of t)) (sym (text-lines t k) ∙ e) (lines-ended 1 (lines_of t) start start-bounded)))
    ]

    back : Comes t o → read_text t ≡ o
    back (inl (h, e)) = text-long t h ∙ sym e
    back (inr (h, e)) = text-lines t h ∙ ended-lines 1 start-bounded e

-- ---- what is accepted

pub accepted-ended : (t : List ℕ) (s : State) → read_text t ≡ accepted s → Ended 1 start (lines_of t) (accepted s)
accepted-ended t s e = elim ((outcome-iff t (accepted s)).0 e) [
  | inl (h, p) ↦ (let z : ◌≡◌ {A = ℕ} 0 1 = cc in absurd (omega arith))
  | inr (h, p) ↦ p
]

there : (most : ℕ) (o : Option ℕ) → missing o ≡ false → within most o ≡ true → (n : ℕ) × (o ≡ some n) × (1 ≤ n) × (n ≤ most)
there most none e h = clash refl e
there most (some n) e h = let q = both (leb 1 n) (leb n most) h in (n, refl, leb-true 1 n q.0, leb-true n most q.1)

-- the last line finds nothing missing
done-complete : (c : List ℕ) (s : State) → Bounded s → Closes s c → (n : ℕ) × (m : ℕ) × Complete s n m
done-complete c s g d =
    let w = there most_inputs s.wide d.wide g.wide in
    let u = there most_outputs s.tall d.tall g.tall in (
      w.0,
      u.0,
      record {
        wide = w.1;
        inputs = (w.2, w.3);
        tall = u.1;
        outputs = (u.2, u.3);
        stated = d.stated;
        rows = g.rows;
        shaped = λ x m. rw (w.1, u.1) at (g.shaped x m);
      },
    )

ended-complete : {k : ℕ} {s t : State} {ls : List (List ℕ)} → Bounded s → Ended k s ls (accepted t) → (n : ℕ) × (m : ℕ) × Complete t n m
ended-complete {t = t} g (whole a l b r d) = done-complete (content l) t (read-bounded r g) d

-- a table that is accepted has its inputs and outputs, few enough rows, and cube lines of that many places and marks
pub accepted-complete : (t : List ℕ) (s : State) → read_text t ≡ accepted s → (n : ℕ) × (m : ℕ) × Complete s n m
accepted-complete t s e = ended-complete start-bounded (accepted-ended t s e)

-- ---- what each number is given for

-- where the text is not too long: 5 at line and column 0, or another number at its line and column
ended-refused : {k : ℕ} {s : State} {ls : List (List ℕ)} {q : Refusal} → Ended k s ls (refused q)
    → ((q.number ≡ 5) × (q.line ≡ 0) × (q.column ≡ 0))
    ⊎ ((is_line q.number ≡ true) × (k ≤ q.line) × (q.line < k + length ls) × (1 ≤ q.column))
ended-refused (stopped a l b r d p) = inr (refuses-line d, omega arith, omega (arith, length-append a (l ∷ b)), points-from p)
ended-refused (short a r) = inl (refl, refl, refl)

-- 1 and 5 report line 0 and column 0, the others their line, from 1 to the last of a text that is not too long, and a column from 1 on
pub refused-line : (t : List ℕ) (q : Refusal) → read_text t ≡ refused q → ((q.number ≡ 1) × (q.line ≡ 0) × (q.column ≡ 0))
    ⊎ (((q.number ≡ 5) × (q.line ≡ 0) × (q.column ≡ 0))
    ⊎ ((is_line q.number ≡ true) × (1 ≤ q.line) × (q.line ≤ length (lines_of t)) × (length t ≤ most_bytes) × (1 ≤ q.column)))
refused-line t q e = elim ((outcome-iff t (refused q)).0 e) [
  | inl (h, p) ↦ (let w : q ≡ record { number = 1; line = 0; column = 0 } = cc in
      inl (ap (λ (z : Refusal). z.number) w, ap (λ (z : Refusal). z.line) w, ap (λ (z : Refusal). z.column) w))
  | inr (h, p) ↦ inr (⊎_elim (λ k. inl k) (λ k. inr (k.0, k.1, omega (arith, k.2), h, k.3)) (ended-refused p))
]

-- 1: text over 65,536 bytes
pub refused-one : (t : List ℕ) → (read_text t ≡ refused_at 1 0 0) ↔ (most_bytes < length t)
refused-one t = (into, text-long t)
  where
    into : read_text t ≡ refused_at 1 0 0 → most_bytes < length t
    into e = elim ((outcome-iff t (refused_at 1 0 0)).0 e) [
      | inl (h, p) ↦ h
      | inr (h, p) ↦ absurd (⊎_elim (λ k. omega (arith, k.0)) (λ k. clash k.0 none-one) (ended-refused p))
    ]
