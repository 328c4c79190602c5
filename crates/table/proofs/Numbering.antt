-- The number and the line of a refusal are those of the base paper, which has no column. Assumes nothing.
use Prim.Native.Nat.{ℕ, suc, ◌+◌}
use mathlib.Core.Path.{◌≡◌, refl, sym, ap, ◌∙◌, subst}
use mathlib.Core.Logic.{inl, inr, ◌↔◌}
use mathlib.Core.Bool.{Bool, true, false, cond}
use mathlib.Core.List.{List, [], ◌∷◌}
use lib.Dec.{ltb}
use lib.ListN.{length}
use Rattle.table_lines.specs.Text.{lines_of}
use Rattle.table.specs.Table.{State, start, Turn, next, done, refuse, read_line, Outcome, accepted, refused_at, column_at}
use Rattle.table.specs.Table.{read_lines, read_text, most_bytes}
use Rattle.table.specs.Numbered.{Numbered, taken, turned, number_lines, number_text, columnless}
use Rattle.table.specs.Meaning.{Bounded, Ended, whole, stopped, short, Comes, Halts, at_end, at_line, nowhere, Gives}
use Rattle.table.proofs.{Going.start-bounded, Going.read-bounded, Pointing.points-iff, Refusals.outcome-iff}

number-lines : (k : ℕ) (ls : List (List ℕ)) (s : State) → columnless (read_lines k ls s) ≡ number_lines k ls s
unfolding read_lines number_lines
number-lines k [] s = refl
number-lines k (l ∷ ls) s = go (read_line l s) (λ t. number-lines (suc k) ls t)
  where
    go : (p : Turn) → ((t : State) → columnless (read_lines (suc k) ls t) ≡ number_lines (suc k) ls t)
        → columnless (elim p [ next t ↦ read_lines (suc k) ls t | done t ↦ accepted t | refuse r ↦ refused_at r k (column_at s l r) ])
        ≡ elim p [ next t ↦ number_lines (suc k) ls t | done t ↦ taken t | refuse r ↦ turned r k ]
    go (next t) f = f t
    go (done t) f = refl
    go (refuse r) f = refl

pub number-and-line : (t : List ℕ) → columnless (read_text t) ≡ number_text t
unfolding read_text number_text
number-and-line t = go (ltb most_bytes (length t))
  where
    go : (b : Bool) → columnless (cond b (refused_at 1 0 0) (read_lines 1 (lines_of t) start)) ≡ cond b (turned 1 0) (number_lines 1 (lines_of t) start)
    go true = refl
    go false = number-lines 1 (lines_of t) start

-- ---- and these are given exactly when the base paper says

ended-halts : {k : ℕ} {s : State} {ls : List (List ℕ)} {o : Outcome} → Ended k s ls o → Halts k s ls (columnless o)
ended-halts (whole a l b r d) = at_end a l b r d
ended-halts (stopped a l b r d p) = at_line a l b r d
ended-halts (short a r) = nowhere a r

halts-ended : {k : ℕ} {s : State} {ls : List (List ℕ)} {o : Numbered} → Bounded s → Halts k s ls o → (p : Outcome) × (columnless p ≡ o) × Ended k s ls p
halts-ended g (at_end a l b {t = t} r d) = (accepted t, refl, whole a l b r d)
halts-ended {k} g (at_line a l b {t = t} {r = q} r d) = let c = column_at t l q in
    (refused_at q (k + length a) c, refl, stopped a l b r d ((points-iff l t q c (read-bounded r g) d).0 refl))
halts-ended g (nowhere a r) = (refused_at 5 0 0, refl, short a r)

pub numbered-iff : (t : List ℕ) (o : Numbered) → (number_text t ≡ o) ↔ Gives t o
numbered-iff t o = (
  λ e. subst (Gives t) (number-and-line t ∙ e) (out (read_text t) ((outcome-iff t (read_text t)).0 refl)),
  λ h. let w = back h in sym (number-and-line t) ∙ ap columnless ((outcome-iff t w.0).1 w.2) ∙ w.1,
)
  where
    out : (p : Outcome) → Comes t p → Gives t (columnless p)
    out p (inl (h, e)) = inl (h, ap columnless e)
    out p (inr (h, e)) = inr (h, ended-halts e)

    back : Gives t o → (p : Outcome) × (columnless p ≡ o) × Comes t p
    back (inl (h, e)) = (refused_at 1 0 0, sym e, inl (h, refl))
    back (inr (h, e)) = let w = halts-ended start-bounded e in (w.0, w.1, inr (h, w.2))
