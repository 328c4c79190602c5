-- What a line does, in the paper's words: when it goes on and to what, when it ends the table, and by which number it is refused. Assumes nothing.
use Prim.Native.Nat.{ℕ, ◌+◌, ◌<◌}
use mathlib.Core.Path.{◌≡◌, refl, sym, ap, ap₂, ◌∙◌, subst}
use mathlib.Core.Logic.{◌⊎◌, inl, inr, ◌↔◌}
use mathlib.Core.Bool.{Bool, true, false, cond, ◌&&◌, and-false}
use mathlib.Core.List.{List, [], ◌∷◌}
use mathlib.Core.Option.{Option, none, some}
use native.Mathlib.Omega.{arith}
use lib.Dec.{leb}
use lib.ListN.{length}
use borrow.Author.Tests.{leb-true, leb-false, le-leb, lt-leb, eqb-false, ne_eqb}
use Rattle.sets.{specs.Lists.total, specs.Lists.is_nil, specs.Sets.mem, proofs.Truth.clash}
use Rattle.network.specs.Held.{most_inputs, most_outputs, up_to}
use Rattle.table_lines.specs.Text.{content}
use Rattle.table_kinds.specs.{Kinds.kind_of, declared.Kind.Kind}
use Rattle.table_rows.specs.Lines.{CubeLine, cube_line_of, rows_in}
use Rattle.table_kinds.specs.declared.Kind.TheVariants.{Empty, Inputs, Outputs, Products, End, Other}
use Rattle.table.specs.Table.{State, Turn, next, done, refuse, in_time, missing, right_count, number_line, set_wide, set_tall, set_stated}
use Rattle.table.specs.Table.{with_line, finish, add_line, cube_line, by_kind, read_line, most_products, most_rows}
use Rattle.table.specs.Meaning.{Timely, Goes, blank, inputs, outputs, products, cube, Late, Early, Closes, is_line, Does, going, closing, refusing}
use Rattle.table.specs.Meaning.{Refuses, late_inputs, late_outputs, late_products, early_end, early_cube, no_kind, out_inputs, out_outputs, out_products}
use Rattle.table.specs.Meaning.{differs, over}
use Rattle.network.proofs.Holding.{up-out}

-- ---- in time or late, in range or out of it

pub is_none : (o : Option ℕ) → missing o ≡ true → o ≡ none
is_none none h = refl
is_none (some n) h = clash h refl

is-nil : (l : List CubeLine) → is_nil l ≡ true → l ≡ []
is-nil [] h = refl
is-nil (c ∷ l) h = clash h refl

late-in : (a b : Bool) → (a ≡ false) ⊎ (b ≡ false) → (a && b) ≡ false
late-in a b (inl h) = rw h
late-in a b (inr h) = rw h (and-false a)

range-out : (most n : ℕ) → up_to most n ≡ false → (n ≡ 0) ⊎ (most < n)
range-out most n h = go (leb 1 n) (leb n most) refl refl
  where
    go : (a b : Bool) → leb 1 n ≡ a → leb n most ≡ b → (n ≡ 0) ⊎ (most < n)
    go true true p q = clash (rw (p, q)) h
    go true false p q = let k = leb-false n most q in inr (omega arith)
    go false b p q = let k = leb-false 1 n p in inl (omega arith)

range-in : (most n : ℕ) → (n ≡ 0) ⊎ (most < n) → up_to most n ≡ false
range-in most n (inl e) = rw e
range-in most n (inr h) = rw (le-leb 1 n (omega arith), lt-leb n most h)

differ-out : (o : Option ℕ) (l : List CubeLine) → right_count o l ≡ false → (p : ℕ) × (o ≡ some p) × (p ≡ length l → ⊥)
differ-out none l h = clash refl h
differ-out (some p) l h = (p, refl, eqb-false p (length l) h)

-- ---- what each kind of line does

module _ (s : State) (c : List ℕ) where
  -- a number: 2 where it is late, 3 where it is out of range
  number-does : (o : Option ℕ) (b : Bool) {t : State} → (Timely o s.lines → b ≡ true → Goes s c t) → (Late o s.lines → Refuses s c 2)
      → (Timely o s.lines → b ≡ false → Refuses s c 3) → Does s c (number_line (in_time o s.lines) b t)
  number-does o b {t} f g h = go (missing o) (is_nil s.lines) b refl refl refl
    where
      in-time : missing o ≡ true → is_nil s.lines ≡ true → Timely o s.lines
      in-time p q = record { new = is_none o p; first = is-nil s.lines q }

      go : (x y z : Bool) → missing o ≡ x → is_nil s.lines ≡ y → b ≡ z → Does s c (number_line (x && y) z t)
      go true true true p q r = going (f (in-time p q) r)
      go true true false p q r = refusing (h (in-time p q) r)
      go true false z p q r = refusing (g (inr q))
      go false y z p q r = refusing (g (inl p))

  finish-does : kind_of c ≡ End → Does s c (finish s)
  unfolding finish
  finish-does k = go (missing s.wide) (missing s.tall) (right_count s.stated s.lines) refl refl refl
    where
      go : (a b d : Bool) → missing s.wide ≡ a → missing s.tall ≡ b → right_count s.stated s.lines ≡ d
          → Does s c (cond a (refuse 2) (cond b (refuse 2) (cond d (done s) (refuse 4))))
      go true b d p q x = refusing (early_end k (inl p))
      go false true d p q x = refusing (early_end k (inr q))
      go false false true p q x = closing (record { kind = k; wide = p; tall = q; stated = x })
      go false false false p q x = let w = differ-out s.stated s.lines x in refusing (differs w.0 k p q w.1 w.2)

  added-does : kind_of c ≡ Other → (n m : ℕ) → s.wide ≡ some n → s.tall ≡ some m → (o : Option CubeLine) → cube_line_of n m c ≡ o → Does s c (add_line o s)
  added-does k n m p q none x = refusing (no_kind n m k p q x)
  added-does k n m p q (some l) x = go (leb (total rows_in s.lines + rows_in l) most_rows) refl
    where
      go : (b : Bool) → leb (total rows_in s.lines + rows_in l) most_rows ≡ b → Does s c (cond b (next (with_line s l)) (refuse 6))
      go true h = going (cube n m l k p q x (leb-true (total rows_in s.lines + rows_in l) most_rows h))
      go false h = refusing (over n m l k p q x (leb-false (total rows_in s.lines + rows_in l) most_rows h))

  cube-does : kind_of c ≡ Other → Does s c (cube_line s.wide s.tall c s)
  cube-does k = go s.wide s.tall refl refl
    where
      go : (w u : Option ℕ) → s.wide ≡ w → s.tall ≡ u → Does s c (cube_line w u c s)
      go none u p q = refusing (early_cube k (inl (ap missing p)))
      go (some n) none p q = refusing (early_cube k (inr (ap missing q)))
      go (some n) (some m) p q = added-does k n m p q (cube_line_of n m c) refl

  kind-does : (k : Kind) → kind_of c ≡ k → Does s c (by_kind k c s)
  unfolding set_wide set_tall set_stated
  kind-does Empty q = going (blank q)
  kind-does (Inputs n) q =
      number-does s.wide (up_to most_inputs n) (λ t h. let w = up-out most_inputs n h in inputs n q t w.0 w.1) (late_inputs n q)
      (λ t h. out_inputs n q t (range-out most_inputs n h))
  kind-does (Outputs n) q =
      number-does s.tall (up_to most_outputs n) (λ t h. let w = up-out most_outputs n h in outputs n q t w.0 w.1) (late_outputs n q)
      (λ t h. out_outputs n q t (range-out most_outputs n h))
  kind-does (Products n) q =
      number-does s.stated (leb n most_products) (λ t h. products n q t (leb-true n most_products h)) (late_products n q)
      (λ t h. out_products n q t (leb-false n most_products h))
  kind-does End q = finish-does q
  kind-does Other q = cube-does q

  -- ---- and back

  early-end : Early s → finish s ≡ refuse 2
  unfolding finish
  early-end (inl h) = rw h
  early-end (inr h) = go (missing s.wide)
    where
      go : (b : Bool) → cond b (refuse 2) (cond (missing s.tall) (refuse 2) (cond (right_count s.stated s.lines) (done s) (refuse 4))) ≡ refuse 2
      go true = refl
      go false = rw h

  early-cube : Early s → cube_line s.wide s.tall c s ≡ refuse 2
  early-cube h = go s.wide s.tall h
    where
      go : (w u : Option ℕ) → (missing w ≡ true) ⊎ (missing u ≡ true) → cube_line w u c s ≡ refuse 2
      go none u h = refl
      go (some n) none h = refl
      go (some n) (some m) (inl e) = clash e refl
      go (some n) (some m) (inr e) = clash e refl

  cube-at : (n m : ℕ) (o : Option CubeLine) → s.wide ≡ some n → s.tall ≡ some m → cube_line_of n m c ≡ o → cube_line s.wide s.tall c s ≡ add_line o s
  cube-at n m o p q e = ap₂ (λ (w u : Option ℕ). cube_line w u c s) p q ∙ ap (λ (x : Option CubeLine). add_line x s) e

  of-kind : {k : Kind} {x : Turn} → kind_of c ≡ k → by_kind k c s ≡ x → by_kind (kind_of c) c s ≡ x
  of-kind e h = ap (λ (z : Kind). by_kind z c s) e ∙ h

  goes_back : {t : State} → Goes s c t → by_kind (kind_of c) c s ≡ next t
  unfolding set_wide set_tall set_stated
  goes_back (blank k) = of-kind k refl
  goes_back (inputs n k h a b) = of-kind k (rw (h.new, h.first, le-leb 1 n a, le-leb n most_inputs b))
  goes_back (outputs n k h a b) = of-kind k (rw (h.new, h.first, le-leb 1 n a, le-leb n most_outputs b))
  goes_back (products n k h b) = of-kind k (rw (h.new, h.first, le-leb n most_products b))
  goes_back (cube n m l k p q x h) = of-kind k (cube-at n m (some l) p q x ∙ rw (le-leb (total rows_in s.lines + rows_in l) most_rows h))

  refuses-back : {r : ℕ} → Refuses s c r → by_kind (kind_of c) c s ≡ refuse r
  unfolding set_wide set_tall set_stated finish
  refuses-back (late_inputs n k h) = of-kind k (rw (late-in (missing s.wide) (is_nil s.lines) h))
  refuses-back (late_outputs n k h) = of-kind k (rw (late-in (missing s.tall) (is_nil s.lines) h))
  refuses-back (late_products n k h) = of-kind k (rw (late-in (missing s.stated) (is_nil s.lines) h))
  refuses-back (early_end k h) = of-kind k (early-end h)
  refuses-back (early_cube k h) = of-kind k (early-cube h)
  refuses-back (no_kind n m k p q x) = of-kind k (cube-at n m none p q x)
  refuses-back (out_inputs n k h r) = of-kind k (rw (h.new, h.first, range-in most_inputs n r))
  refuses-back (out_outputs n k h r) = of-kind k (rw (h.new, h.first, range-in most_outputs n r))
  refuses-back (out_products n k h r) = of-kind k (rw (h.new, h.first, lt-leb n most_products r))
  refuses-back (differs p k a b e f) = of-kind k (rw (a, b, e, ne_eqb p (length s.lines) f))
  refuses-back (over n m l k p q x h) = of-kind k (cube-at n m (some l) p q x ∙ rw (lt-leb (total rows_in s.lines + rows_in l) most_rows h))

  closes-back : Closes s c → by_kind (kind_of c) c s ≡ done s
  unfolding finish
  closes-back h = of-kind h.kind (rw (h.wide, h.tall, h.stated))

-- ---- a line

pub line_does : (l : List ℕ) (s : State) → Does s (content l) (read_line l s)
unfolding read_line
line_does l s = kind-does s (content l) (kind_of (content l)) refl

module _ {s : State} {c : List ℕ} where
  does-next : {t : State} → Does s c (next t) → Goes s c t
  does-next (going g) = g

  does-done : {t : State} → Does s c (done t) → (t ≡ s) × Closes s c
  does-done (closing h) = (refl, h)

  does-refuse : {r : ℕ} → Does s c (refuse r) → Refuses s c r
  does-refuse (refusing h) = h

-- it goes on exactly when it is empty, a number in time and in range, or a cube line of few enough rows, and to what these leave
pub next-iff : (l : List ℕ) (s t : State) → (read_line l s ≡ next t) ↔ Goes s (content l) t
unfolding read_line
next-iff l s t = (λ e. does-next (subst (Does s (content l)) e (line_does l s)), goes_back s (content l))

-- it ends the table exactly when it is `.e` and nothing is missing or differs
pub done-iff : (l : List ℕ) (s t : State) → (read_line l s ≡ done t) ↔ ((t ≡ s) × Closes s (content l))
unfolding read_line
done-iff l s t = (λ e. does-done (subst (Does s (content l)) e (line_does l s)), λ h. closes-back s (content l) h.1 ∙ ap done (sym h.0))

-- it is refused by a number exactly when there is a reason for that number
pub refuse-iff : (l : List ℕ) (s : State) (r : ℕ) → (read_line l s ≡ refuse r) ↔ Refuses s (content l) r
unfolding read_line
refuse-iff l s r = (λ e. does-refuse (subst (Does s (content l)) e (line_does l s)), refuses-back s (content l))

-- the numbers are 2, 3, 4 and 6
pub refuses-line : {s : State} {c : List ℕ} {r : ℕ} → Refuses s c r → is_line r ≡ true
unfolding mem
refuses-line (late_inputs n k h) = refl
refuses-line (late_outputs n k h) = refl
refuses-line (late_products n k h) = refl
refuses-line (early_end k h) = refl
refuses-line (early_cube k h) = refl
refuses-line (no_kind n m k p q x) = refl
refuses-line (out_inputs n k h r) = refl
refuses-line (out_outputs n k h r) = refl
refuses-line (out_products n k h r) = refl
refuses-line (differs p k a b e f) = refl
refuses-line (over n m l k p q x h) = refl
