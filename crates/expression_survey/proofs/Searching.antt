-- The search by halving: its turns; and in cube order it finds the one place at which a cube stands. Assumes nothing.
use Prim.Native.Nat.{ℕ, zero, suc, ◌+◌, ◌-◌, ◌/◌, ◌<◌, ◌≤◌}
use mathlib.Core.Path.{◌≡◌, refl, sym, ◌∙◌, ap, subst}
use mathlib.Core.Bool.{Bool, true, false, cond, false≢true}
use mathlib.Core.List.Memᴰ
use mathlib.Core.List.{List, []}
use mathlib.Core.Logic.{◌↔◌}
use mathlib.Core.Option.{Option, none, some}
use native.Mathlib.Omega.{arith}
use lib.Dec.{ltb}
use lib.ListN.{length, get_or}
use borrow.Author.Tests.{lt-ltb, le-ltb, ltb-true}
use Rattle.sets.specs.{Lists.is_some, Sets.before}
use Rattle.sets.proofs.Truth.{iff, Stand, below, equal, beyond, compared}
use Rattle.sets.proofs.Places.{pairwise-at, at_in, in-at}
use Rattle.sets.proofs.Ordering.{before-irrefl, before-asym, before-linear}
use Rattle.expression.specs.Expression.{ordered, has}
use Rattle.expression_survey.specs.Search.{halve, find_in}
use Rattle.expression.proofs.Members.{has_in, has-out}

-- ---- the turns

-- the cube in the middle
abbrev pub middle : List (List ℕ) → ℕ → ℕ → List ℕ
middle f low high = get_or f (low + (high - low) / 2) []

-- what is left of the search: some number of turns is enough
pub record Left (c : List ℕ) (f : List (List ℕ)) (low high : ℕ) : Type 0 where
  pub turns : ℕ
  pub enough : high - low ≤ turns
  pub going : halve turns c f low high ≡ find_in c f

module _ (c : List ℕ) (f : List (List ℕ)) (low high : ℕ) where
  -- one turn
  turn : (k : ℕ) → low < high → halve (suc k) c f low high
      ≡ cond (before (middle f low high) c) (halve k c f (low + (high - low) / 2 + 1) high)
      (cond (before c (middle f low high)) (halve k c f low (low + (high - low) / 2)) (some (low + (high - low) / 2)))
  unfolding halve
  turn k h = rw (lt-ltb low high h)

  module _ (l : Left c f low high) (h : low < high) where
    pub go-up : before (middle f low high) c ≡ true → Left c f (low + (high - low) / 2 + 1) high
    go-up b = go l.turns l.enough l.going
      where
        go : (k : ℕ) → high - low ≤ k → halve k c f low high ≡ find_in c f → Left c f (low + (high - low) / 2 + 1) high
        go zero e g = absurd (omega arith)
        go (suc k) e g = record { turns = k; enough = omega arith; going = sym (turn k h ∙ rw b) ∙ g }

    pub go-down : before c (middle f low high) ≡ true → Left c f low (low + (high - low) / 2)
    go-down b = go l.turns l.enough l.going
      where
        go : (k : ℕ) → high - low ≤ k → halve k c f low high ≡ find_in c f → Left c f low (low + (high - low) / 2)
        go zero e g = absurd (omega arith)
        go (suc k) e g = record { turns = k; enough = omega arith; going = sym (turn k h ∙ rw (before-asym c (middle f low high) b, b)) ∙ g }

    pub stop-at : middle f low high ≡ c → some (low + (high - low) / 2) ≡ find_in c f
    stop-at q = go l.turns l.enough l.going
      where
        go : (k : ℕ) → high - low ≤ k → halve k c f low high ≡ find_in c f → some (low + (high - low) / 2) ≡ find_in c f
        go zero e g = absurd (omega arith)
        go (suc k) e g = sym (turn k h ∙ rw (q, before-irrefl c)) ∙ g

  pub stop-none : Left c f low high → high ≤ low → none ≡ find_in c f
  unfolding halve
  stop-none l h = go l.turns l.going
    where
      go : (k : ℕ) → halve k c f low high ≡ find_in c f → none ≡ find_in c f
      go zero g = g
      go (suc k) g = rw (le-ltb low high h) at g

-- ---- in cube order

-- each cube comes before every later one, by places
ordered_at : (f : List (List ℕ)) (i j : ℕ) → ordered f ≡ true → i < j → j < length f → before (get_or f i []) (get_or f j []) ≡ true
ordered_at = pairwise-at before []

-- what is found stands there
halve-sound : (k : ℕ) (c : List ℕ) (f : List (List ℕ)) (low high i : ℕ) → halve k c f low high ≡ some i → (i < high) × (get_or f i [] ≡ c)
unfolding halve
halve-sound zero c f low high i e = absurd (let z : ◌≡◌ {A = ℕ} 0 1 = cc in omega arith)
halve-sound (suc k) c f low high i e = outer (ltb low high) refl e (halve-sound k c f)
  where
    m : ℕ
    m = low + (high - low) / 2

    inner : low < high → (p q : Bool) → before (get_or f m []) c ≡ p → before c (get_or f m []) ≡ q
        → cond p (halve k c f (m + 1) high) (cond q (halve k c f low m) (some m)) ≡ some i
        → ((a b j : ℕ) → halve k c f a b ≡ some j → (j < b) × (get_or f j [] ≡ c)) → (i < high) × (get_or f i [] ≡ c)
    inner h true q u v e ih = ih (m + 1) high i e
    inner h false true u v e ih = let r = ih low m i e in (omega arith, r.1)
    inner h false false u v e ih = let s : m ≡ i = cc in (omega arith, ap (λ j. get_or f j []) (sym s) ∙ before-linear (get_or f m []) c u v)

    outer : (t : Bool) → ltb low high ≡ t
        → cond t (cond (before (get_or f m []) c) (halve k c f (m + 1) high) (cond (before c (get_or f m [])) (halve k c f low m) (some m))) none ≡ some i
        → ((a b j : ℕ) → halve k c f a b ≡ some j → (j < b) × (get_or f j [] ≡ c)) → (i < high) × (get_or f i [] ≡ c)
    outer true t e ih = inner (ltb-true low high t) (before (get_or f m []) c) (before c (get_or f m [])) refl refl e ih
    outer false t e ih = absurd (let z : ◌≡◌ {A = ℕ} 0 1 = cc in omega arith)

-- and what stands there is found
halve-complete : (k : ℕ) (f : List (List ℕ)) (low high i : ℕ) → ordered f ≡ true → high - low ≤ k → low ≤ i → i < high → high ≤ length f
    → halve k (get_or f i []) f low high ≡ some i
unfolding halve
halve-complete zero f low high i o e a b l = absurd (omega arith)
halve-complete (suc k) f low high i o e a b l = rw (lt-ltb low high (omega arith)) (go (compared m i) (halve-complete k f))
  where
    m : ℕ
    m = low + (high - low) / 2

    c : List ℕ
    c = get_or f i []

    go : Stand m i
        → ((x y j : ℕ) → ordered f ≡ true → y - x ≤ k → x ≤ j → j < y → y ≤ length f → halve k (get_or f j []) f x y ≡ some j)
        → cond (before (get_or f m []) c) (halve k c f (m + 1) high) (cond (before c (get_or f m [])) (halve k c f low m) (some m)) ≡ some i
    go (below h _ _) ih = rw (ordered_at f m i o h (omega arith)) (ih (m + 1) high i o (omega arith) (omega arith) b l)
    go (equal h _ _) ih = rw (h, before-irrefl (get_or f i []))
    go (beyond h _ _) ih =
        let q = ordered_at f i m o h (omega arith) in
        rw (before-asym (get_or f i []) (get_or f m []) q, q) (ih low m i o (omega arith) a h (omega arith))

-- the search answers a place exactly when the cube stands there
pub find-iff : (c : List ℕ) (f : List (List ℕ)) (i : ℕ) → ordered f ≡ true → (find_in c f ≡ some i) ↔ ((i < length f) × (get_or f i [] ≡ c))
find-iff c f i o = (
  (λ e. halve-sound (length f) c f 0 (length f) i e),
  (λ (h, e). subst (λ d. find_in d f ≡ some i) e (halve-complete (length f) f 0 (length f) i o (omega arith) (omega arith) h (omega arith))),
)

-- in cube order a search finds a cube exactly where it is one of them
pub find-has : (c : List ℕ) (f : List (List ℕ)) → ordered f ≡ true → is_some (find_in c f) ≡ has c f
find-has c f o = iff (forth (find_in c f) refl) (λ h. back (in-at [] (has-out c f h)))
  where
    forth : (r : Option ℕ) → find_in c f ≡ r → is_some r ≡ true → has c f ≡ true
    forth none e h = absurd (false≢true h)
    forth (some i) e h = let q = (find-iff c f i o).0 e in has_in (Memᴰ.cast (sym q.1) (at_in f i [] q.0))

    back : (i : ℕ) × (i < length f) × (get_or f i [] ≡ c) → is_some (find_in c f) ≡ true
    back (i, h, e) = ap is_some ((find-iff c f i o).1 (h, e))
