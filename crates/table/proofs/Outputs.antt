-- The outputs of a table: expressions in cube order over its inputs, on exactly where some row, as written, covers the setting. Assumes nothing.
use Prim.Native.Nat.{ℕ, suc, ◌+◌, ◌*◌, ◌/◌, ◌<◌, ◌≤◌}
use mathlib.Core.Path.{◌≡◌, refl, sym, ap, ap₂, ◌∙◌, subst}
use mathlib.Core.Bool.{Bool, true, false, cond, ◌&&◌, ◌||◌}
use mathlib.Core.List.{Memᴰ.head as here, Memᴰ.tail as there}
use mathlib.Core.List.{List, [], ◌∷◌, map}
use native.Mathlib.Nat.{suc-mul}
use native.Mathlib.Omega.{arith}
use lib.Dec.{eqb}
use lib.ListN.{length, get_or}
use Rattle.sets.specs.Lists.{any, all, keep, total, from}
use Rattle.sets.{specs.Sets.asc, specs.Sets.proper, specs.Masks.bit, proofs.Truth.together, proofs.Rows.get_d-from}
use Rattle.sets.proofs.Lists.{◌∈◌, all_in, any-cong, keep_out, map-out}
use Rattle.expression.specs.Expression.{is_cube, expression, literals_of, ordered, absorbed}
use Rattle.expression.specs.Value.{lit, value}
use Rattle.expression.proofs.Absorbing.{absorbed-sub, absorbed-expression, absorbed-literals, absorbed-value}
use Rattle.expression.proofs.Sorting.{sort-out, value-sort, total-sort, expression-sort}
use Rattle.network.specs.{Listing.list_more, Listing.listing, Evaluation.settle, Evaluation.evaluate}
use Rattle.network.proofs.Evaluating.{evaluate-bit}
use Rattle.table_rows.specs.Lines.{CubeLine, cube_from, cube_of, covers}
use Rattle.table_rows.proofs.Covering.{covers-value, from-bounds, from-asc, from-proper}
use Rattle.table.specs.Table.{State, cubes_for, output_for, table_net}
use Rattle.table_rows.specs.Meaning.{LineOf}
use Rattle.table_columns.specs.Columns.{or_zero}
use Rattle.table.specs.{Written.some_covers, Meaning.Complete}

-- ---- the cubes of an output

-- each is that of a row
pub cube-row : (j : ℕ) (lines : List CubeLine) (c : List ℕ) → c ∈ cubes_for j lines → (l : CubeLine) × (l ∈ lines) × (c ≡ cube_of l)
cube-row j lines c m = let x = map-out cube_of (keep (λ (l : CubeLine). get_or l.marks j false) lines) m in
    (x.0, (keep_out (λ (l : CubeLine). get_or l.marks j false) lines x.1).0, x.2)

pub cubes-are : (j : ℕ) (lines : List CubeLine) → all is_cube (cubes_for j lines) ≡ true
cubes-are j lines = all_in is_cube (cubes_for j lines)
    (λ c m. let r = cube-row j lines c m in subst (λ (z : List ℕ). is_cube z ≡ true) (sym r.2)
    (together (asc (cube_of r.0)) (proper (cube_of r.0)) (from-asc 0 r.0.places) (from-proper 0 r.0.places)))

cubes-asc : (j : ℕ) (lines : List CubeLine) → all asc (cubes_for j lines) ≡ true
cubes-asc j lines = all_in asc (cubes_for j lines) (λ c m. let r = cube-row j lines c m in
    subst (λ (z : List ℕ). asc z ≡ true) (sym r.2) (from-asc 0 r.0.places))

-- an output has an expression, its cubes in cube order
pub output-form : (lines : List CubeLine) (j : ℕ) → (expression (output_for lines j) ≡ true) × (ordered (output_for lines j) ≡ true)
output-form lines j = expression-sort (absorbed (cubes_for j lines)) (absorbed-expression (cubes_for j lines) (cubes-are j lines))

-- its cubes are those of rows
pub output_row : (lines : List CubeLine) (j : ℕ) (c : List ℕ) → c ∈ output_for lines j → (l : CubeLine) × (l ∈ lines) × (c ≡ cube_of l)
output_row lines j c m = cube-row j lines c (absorbed-sub (cubes_for j lines) c (sort-out (absorbed (cubes_for j lines)) m))

-- it reads the inputs only
pub output-reads : (n : ℕ) (lines : List CubeLine) (j : ℕ) → ((l : CubeLine) → l ∈ lines → length l.places ≡ n) → (c : List ℕ) → c ∈ output_for lines j
    → (x : ℕ) → x ∈ c → x / 2 < n
output-reads n lines j h c m x i =
    let r = output_row lines j c m in
    let b = from-bounds 0 r.0.places (subst (λ (z : List ℕ). x ∈ z) r.2 i) in
    omega (arith, b.1, h r.0 r.1)

-- a place has one literal at most
from-few : (v : ℕ) (p : List ℕ) → length (cube_from v p) ≤ length p
unfolding cube_from
from-few v [] = omega arith
from-few v (b ∷ p) = go (eqb b 49) (eqb b 48) (from-few (suc v) p)
  where
    go : (x y : Bool) → length (cube_from (suc v) p) ≤ length p
        → length (cond x ((2 * v) ∷ cube_from (suc v) p) (cond y ((2 * v + 1) ∷ cube_from (suc v) p) (cube_from (suc v) p))) ≤ suc (length p)
    go true y h = omega arith
    go false true h = omega arith
    go false false h = omega arith

total-most : (f : List (List ℕ)) (k : ℕ) → ((c : List ℕ) → c ∈ f → length c ≤ k) → total length f ≤ length f * k
total-most [] k h = omega arith
total-most (c ∷ f) k h = omega (arith, h c (here refl), total-most f k (λ d m. h d (there m)), suc-mul (length f) k)

-- the literals of an output
pub output-literals : (n : ℕ) (lines : List CubeLine) (j : ℕ) → ((l : CubeLine) → l ∈ lines → length l.places ≡ n)
    → literals_of (output_for lines j) ≤ length (cubes_for j lines) * n
output-literals n lines j h =
    omega (
      arith,
      total-sort length (absorbed (cubes_for j lines)),
      absorbed-literals (cubes_for j lines),
      total-most (cubes_for j lines) n (λ c m. let r = cube-row j lines c m in omega (arith, ap length r.2, from-few 0 r.0.places, h r.0 r.1)),
    )

-- ---- its value

any-kept : {A B : Type 0} (g : A → B) (p : A → Bool) (q : B → Bool) (l : List A) → any q (map g (keep p l)) ≡ any (λ x. p x && q (g x)) l
any-kept g p q [] = refl
any-kept g p q (x ∷ l) = go (p x) (any-kept g p q l)
  where
    go : (b : Bool) → any q (map g (keep p l)) ≡ any (λ y. p y && q (g y)) l
        → any q (map g (cond b (x ∷ keep p l) (keep p l))) ≡ ((b && q (g x)) || any (λ y. p y && q (g y)) l)
    go true e = ap (q (g x) ||◌) e
    go false e = e

-- on where some row covers the setting: dropping and ordering change no answer
pub output-value : (n m : ℕ) (lines : List CubeLine) (j : ℕ) → ((l : CubeLine) → l ∈ lines → LineOf n m l) → (a : ℕ → Bool)
    → value (lit a) (output_for lines j) ≡ any (λ (l : CubeLine). get_or l.marks j false && covers a 0 l.places) lines
output-value n m lines j h a =
    value-sort (lit a) (absorbed (cubes_for j lines))
    ∙ absorbed-value (lit a) (cubes_for j lines) (cubes-asc j lines)
    ∙ any-kept cube_of (λ (l : CubeLine). get_or l.marks j false) (all (lit a)) lines
    ∙ any-cong (λ (l : CubeLine). get_or l.marks j false && all (lit a) (cube_of l))
    (λ (l : CubeLine). get_or l.marks j false && covers a 0 l.places) lines
    (λ l i. ap (get_or l.marks j false &&◌) (covers-value a 0 l.places (h l i).bytes))

-- ---- the network

pub net-output : (s : State) (j : ℕ) → j < or_zero s.tall → get_or (table_net s).outputs j [] ≡ output_for s.lines j
unfolding table_net
net-output s j h = let e : 0 + j ≡ j = omega arith in get_d-from (output_for s.lines) [] 0 (or_zero s.tall) j h ∙ ap (output_for s.lines) e

settled : (s : State) (a : ℕ → Bool) → settle (table_net s) (listing (table_net s)) a ≡ a
unfolding table_net listing list_more settle
settled s a = refl

-- output j is on exactly when some row of output j, as written, covers the setting
pub outputs-rows : {s : State} {n m : ℕ} → Complete s n m → (x j : ℕ) → j < m
    → bit (evaluate (table_net s) x) j ≡ some_covers s.lines x j
outputs-rows {s} {n} {m} c x j h =
    evaluate-bit (table_net s) x j
    ∙ ap₂ (λ (a : ℕ → Bool) (f : List (List ℕ)). value (lit a) f) (settled s (bit x)) (net-output s j (subst (λ (o : ℕ). j < o) (sym (ap or_zero c.tall)) h))
    ∙ output-value n m s.lines j c.shaped (bit x)

-- the outputs in the network
pub outputs-are : (s : State) (f : List (List ℕ)) → f ∈ (table_net s).outputs → (j : ℕ) × (f ≡ output_for s.lines j)
unfolding table_net
outputs-are s f m = let x = map-out (output_for s.lines) (from 0 (or_zero s.tall)) m in (x.0, x.2)

-- they stand in cube order
pub outputs-ordered : (s : State) (f : List (List ℕ)) → f ∈ (table_net s).outputs → (expression f ≡ true) × (ordered f ≡ true)
outputs-ordered s f m = let x = outputs-are s f m in
    subst (λ (g : List (List ℕ)). (expression g ≡ true) × (ordered g ≡ true)) (sym x.1) (output-form s.lines x.0)
