-- Reading the fields of a network gives back what was put, and what is read was put so. Assumes nothing.
use Prim.Native.Nat.{ℕ, zero, suc, ◌+◌, ◌-◌, ◌/◌, ◌^◌, ◌<◌, ◌≤◌}
use mathlib.Core.Path.{◌≡◌, refl, sym, ap, ap₂, ◌∙◌, subst}
use mathlib.Core.Logic.{◌⊎◌, inl, inr}
use mathlib.Core.Bool.{Bool, true, false, cond, not}
use mathlib.Core.List.Memᴰ
use mathlib.Core.List.Memᴰ.{head as here}
use mathlib.Core.List.Memᴰ.{tail as there}
use mathlib.Core.List.{List, [], ◌∷◌, ◌++◌, map, append_assoc}
use native.Mathlib.Omega.{arith}
use borrow.Author.Tests.{ltb-true, ltb-false, leb-true, eqb-true, eqb-false, not-true, lt-ltb, le-ltb, le-leb}
use lib.Dec.{ltb, leb, eqb}
use lib.ListN.{length, take, drop, length-append, take-append-drop}
use lib.Seq.{take_at, drop_at, length-take-le}
use Rattle.sets.{specs.Literal.opposite_of, specs.Sets.mem, specs.Sets.proper, proofs.Lists.◌∈◌}
use Rattle.sets.proofs.Truth.{both, refuted, clash, neither}
use Rattle.sets.proofs.Sets.{mem-of, of_mem, proper-in, proper-out}
use Rattle.image_fields.specs.Fields.{Field, bits_of, value_of, field_bits}
use Rattle.image_fields.proofs.Bits.{bits-length, value-lt, value-bits, bits-value}
use Rattle.network.specs.Held.{most_inputs, most_outputs, most_variables, most_cubes}
use Rattle.network.{specs.Handed.flat, proofs.Numbering.numbered-length, proofs.Numbering.numbered-cubes}
use Rattle.image_laws.specs.Widths.{edition_field, edition1}
use Rattle.image_laws.specs.Image.{cube_fields, node_fields, head_fields}
use Rattle.image_laws.specs.Reading.{Parsed, got, bad, and_then, get_field, get_many, allowed, get_literals, get_cube, get_node, Raw, get_nodes}
use Rattle.image_laws.specs.Reading.{get_raw, raw_nodes, raw_net}
use Rattle.image_laws.specs.Meaning.{FitCube, FitNode, FitRaw, raw_bits}
use Rattle.image_laws.proofs.Fielding.{fields-append, inputs_bits, outputs_bits, divisors_bits, cubes_bits, literals_bits, literal_bits}
use Rattle.image_laws.proofs.Fielding.{literal_fields, headed, head-fields, node_bits, net-bits}

-- ---- one field

pub field-whole : (w : ℕ) (ok : ℕ → Bool) (b rest : List Bool) → length b ≡ w
    → get_field w ok (b ++ rest) ≡ cond (ok (value_of b)) (got (value_of b) rest) (bad 12)
unfolding get_field
field-whole w ok b rest h = rw (le-ltb (length (b ++ rest)) w (omega (arith, length-append b rest)), take_at b rest w h, drop_at b rest w h)

field_put : (w v : ℕ) (ok : ℕ → Bool) (rest : List Bool) → v < 2 ^ w → ok v ≡ true → get_field w ok (bits_of w v ++ rest) ≡ got v rest
field_put w v ok rest h k = field-whole w ok (bits_of w v) rest (bits-length w v) ∙ rw (value-bits w v h, k)

-- ---- what holds of what is read, if anything is

data Yields {A : Type 0} (P : A → List Bool → Type 0) : Parsed A → Type 0 where
  read : {x : A} {l : List Bool} → P x l → Yields P (got x l)
  nothing : {e : ℕ} → Yields P (bad e)

yields-out : {A : Type 0} {P : A → List Bool → Type 0} {x : A} {l : List Bool} → Yields P (got x l) → P x l
yields-out (read p) = p

field-yields : (w : ℕ) (ok : ℕ → Bool) (l : List Bool) → Yields (λ v r. (l ≡ bits_of w v ++ r) × (v < 2 ^ w) × (ok v ≡ true)) (get_field w ok l)
unfolding get_field
field-yields w ok l = go (ltb (length l) w) (ok (value_of (take w l))) refl refl
  where
    go : (b c : Bool) → ltb (length l) w ≡ b → ok (value_of (take w l)) ≡ c
        → Yields (λ v r. (l ≡ bits_of w v ++ r) × (v < 2 ^ w) × (ok v ≡ true)) (cond b (bad 11) (cond c (got (value_of (take w l)) (drop w l)) (bad 12)))
    go true c p q = nothing
    go false false p q = nothing
    go false true p q =
        let n : length (take w l) ≡ w = length-take-le w l (ltb-false (length l) w p) in
        let b : take w l ≡ bits_of w (value_of (take w l)) = sym (bits-value (take w l)) ∙ ap (λ m. bits_of m (value_of (take w l))) n in
        read (sym (take-append-drop w l) ∙ ap (◌++ drop w l) b, omega (arith, value-lt (take w l), ap (λ m. 2 ^ m) n), q)

yields_more : {A : Type 0} {P Q : A → List Bool → Type 0} {m : Parsed A} → Yields P m → ((x : A) (l : List Bool) → P x l → Q x l) → Yields Q m
yields_more (read {x = x} {l = l} p) f = read (f x l p)
yields_more nothing f = nothing

-- and then of what follows
module _ {A B : Type 0} {P : A → List Bool → Type 0} {Q : B → List Bool → Type 0} where
  then-yields : {m : Parsed A} {k : A → List Bool → Parsed B} → Yields P m → ((x : A) (r : List Bool) → P x r → Yields Q (k x r)) → Yields Q (and_then m k)
  then-yields (read {x = x} {l = r} h) f = f x r h
  then-yields nothing f = nothing

module _ {A : Type 0} (g : List Bool → Parsed A) (put : A → List Field) where
  many-put : (xs : List A) (rest : List Bool) → ((x : A) → x ∈ xs → (t : List Bool) → g (field_bits (put x) ++ t) ≡ got x t)
      → get_many g (length xs) (field_bits (flat (map put xs)) ++ rest) ≡ got xs rest
  unfolding get_many field_bits
  many-put [] rest h = refl
  many-put (x ∷ xs) rest h =
      rw (
        fields-append (put x) (flat (map put xs)),
        append_assoc (field_bits (put x)) (field_bits (flat (map put xs))) rest,
        h x (here refl) (field_bits (flat (map put xs)) ++ rest),
        many-put xs rest (λ y m. h y (there m)),
      )

  many-yields : (P : A → Type 0) → ((l : List Bool) → Yields (λ x r. (l ≡ field_bits (put x) ++ r) × P x) (g l)) → (k : ℕ) (l : List Bool)
      → Yields (λ xs r. (l ≡ field_bits (flat (map put xs)) ++ r) × (length xs ≡ k) × ((x : A) → x ∈ xs → P x)) (get_many g k l)
  unfolding get_many field_bits
  many-yields P h zero l = read (refl, refl, λ y m. absurd (Memᴰ.not-nil m))
  many-yields P h (suc k) l = then-yields (h l) (λ x r (e, p). then-yields (many-yields P h k r) (λ xs t (f, n, q). read (
    e ∙ ap (field_bits (put x) ++◌) f ∙ simp (fields-append, append_assoc),
    ap suc n,
    λ y m. elim (Memᴰ.cases_cons m) [ inl w ↦ subst P (sym w) p | inr w ↦ q y w ],
  )))

-- ---- the literals of a cube

literals-put : (v : ℕ) (d : List ℕ) → v ≤ most_variables → proper d ≡ true → (c seen : List ℕ) (rest : List Bool)
    → ((x : ℕ) → x ∈ c → x ∈ d) → ((x : ℕ) → x ∈ seen → x ∈ d) → ((x : ℕ) → x ∈ c → x / 2 < v)
    → get_literals v (length c) seen (field_bits (literal_fields c) ++ rest) ≡ got c rest
unfolding get_literals field_bits
literals-put v d few single [] seen rest a b k = refl
literals-put v d few single (x ∷ c) seen rest a b k =
    let h : x / 2 < v = k x (here refl) in
    let free : mem (opposite_of x) seen ≡ false = refuted
    (λ m. clash (mem-of (b (opposite_of x) (of_mem (opposite_of x) seen m))) (proper-out d x single (mem-of (a x (here refl))))) in
    rw (
      append_assoc (literal_bits x) (field_bits (literal_fields c)) rest,
      field_put edition1.literal x (allowed v seen) (field_bits (literal_fields c) ++ rest) (omega arith) (rw (lt-ltb (x / 2) v h, free)),
      literals-put v d few single c (x ∷ seen) rest (λ y m. a y (there m))
          (λ y m. elim (Memᴰ.cases_cons m) [ inl e ↦ rw e (a x (here refl)) | inr t ↦ b y t ]) (λ y m. k y (there m)),
    )

-- one literal more keeps a cube proper where its opposite is not there
pub proper-more : (x : ℕ) (c : List ℕ) → proper c ≡ true → mem (opposite_of x) c ≡ false → proper (x ∷ c) ≡ true
proper-more x c h k =
    proper-in (x ∷ c) (λ z m. refuted (λ o. go z (Memᴰ.cases_cons (of_mem z (x ∷ c) m)) (Memᴰ.cases_cons (of_mem (opposite_of z) (x ∷ c) o))))
  where
    apart : (z : ℕ) → z ∈ c → (z ≡ opposite_of x → ⊥)
    apart z t e = clash (mem-of (subst (◌∈ c) e t)) k

    go : (z : ℕ) → (z ≡ x) ⊎ (z ∈ c) → (opposite_of z ≡ x) ⊎ (opposite_of z ∈ c) → ⊥
    go z (inl e) (inl f) = omega arith
    go z (inl e) (inr t) = apart (opposite_of z) t (ap opposite_of e)
    go z (inr t) (inl f) = apart z t (omega arith)
    go z (inr t) (inr u) = clash (mem-of u) (proper-out c z h (mem-of t))

record GotLiterals (v k : ℕ) (seen : List ℕ) (l : List Bool) (c : List ℕ) (rest : List Bool) : Type 0 where
  bits : l ≡ field_bits (literal_fields c) ++ rest
  count : length c ≡ k
  known : (x : ℕ) → x ∈ c → x / 2 < v
  free : (x : ℕ) → x ∈ c → mem (opposite_of x) seen ≡ false
  single : proper c ≡ true

literals-yields : (v k : ℕ) (seen : List ℕ) (l : List Bool) → Yields (GotLiterals v k seen l) (get_literals v k seen l)
unfolding get_literals field_bits mem proper
literals-yields v zero seen l =
    read (record { bits = refl; count = refl; known = λ x m. absurd (Memᴰ.not-nil m); free = λ x m. absurd (Memᴰ.not-nil m); single = refl })
literals-yields v (suc k) seen l = then-yields (field-yields edition1.literal (allowed v seen) l) (λ x r (e, s, a).
    then-yields (literals-yields v k (x ∷ seen) r) (λ xs t o.
    let w = both (ltb (x / 2) v) (not (mem (opposite_of x) seen)) a in
    let other : (y : ℕ) → y ∈ xs → (eqb (opposite_of y) x ≡ false) × (mem (opposite_of y) seen ≡ false) = λ y m. neither _ _ (o.free y m) in
    read (record {
      bits = e ∙ ap (literal_bits x ++◌) o.bits ∙ simp append_assoc;
      count = ap suc o.count;
      known = λ y m. elim (Memᴰ.cases_cons m) [ inl g ↦ rw g (ltb-true (x / 2) v w.0) | inr g ↦ o.known y g ];
      free = λ y m. elim (Memᴰ.cases_cons m) [ inl g ↦ rw g (not-true (mem (opposite_of x) seen) w.1) | inr g ↦ (other y g).1 ];
      single = proper-more x xs o.single (refuted (λ m.
          eqb-false (opposite_of (opposite_of x)) x (other (opposite_of x) (of_mem (opposite_of x) xs m)).0 (omega arith)));
    })))

-- ---- a cube, a node

cube-put : (v : ℕ) → v ≤ most_variables → (c : List ℕ) → FitCube v c → (rest : List Bool) → get_cube v (field_bits (cube_fields c) ++ rest) ≡ got c rest
unfolding get_cube cube_fields field_bits
cube-put v h c f rest =
    rw (
      append_assoc (literals_bits (length c)) (field_bits (literal_fields c)) rest,
      field_put edition1.literals (length c) (λ k. leb k v) (field_bits (literal_fields c) ++ rest) (omega (arith, f.few)) (le-leb (length c) v f.few),
    )
    (literals-put v c h f.single c [] rest (λ x m. m) (λ x m. absurd (Memᴰ.not-nil m)) f.known)

cube-yields : (v : ℕ) (l : List Bool) → Yields (λ c r. (l ≡ field_bits (cube_fields c) ++ r) × FitCube v c) (get_cube v l)
unfolding get_cube cube_fields field_bits
cube-yields v l = then-yields (field-yields edition1.literals (λ k. leb k v) l) (λ k r (e, s, a).
    yields_more (literals-yields v k [] r) (λ c t o. (
      e ∙ ap₂ (λ n u. literals_bits n ++ u) (sym o.count) o.bits ∙ simp append_assoc,
      record { few = omega (arith, o.count, leb-true k v a); known = o.known; single = o.single },
    )))

node-put : (v : ℕ) → v ≤ most_variables → (f : List (List ℕ)) → FitNode v f → (rest : List Bool) → get_node v (field_bits (node_fields f) ++ rest) ≡ got f rest
unfolding get_node node_fields field_bits
node-put v h f k rest =
    rw (
      append_assoc (cubes_bits (length f)) (field_bits (flat (map cube_fields f))) rest,
      field_put edition1.cubes (length f) (λ c. leb c most_cubes) (field_bits (flat (map cube_fields f)) ++ rest) (omega (arith, k.few))
          (le-leb (length f) most_cubes k.few),
    )
    (many-put (get_cube v) cube_fields f rest (λ c m. cube-put v h c (k.cubes c m)))

node-yields : (v : ℕ) (l : List Bool) → Yields (λ f r. (l ≡ field_bits (node_fields f) ++ r) × FitNode v f) (get_node v l)
unfolding get_node node_fields field_bits
node-yields v l = then-yields (field-yields edition1.cubes (λ c. leb c most_cubes) l) (λ k r (e, s, a).
    yields_more (many-yields (get_cube v) cube_fields (FitCube v) (cube-yields v) k r) (λ f t (b, n, o). (
      e ∙ ap₂ (λ x u. cubes_bits x ++ u) (sym n) b ∙ simp append_assoc,
      record { few = omega (arith, leb-true k most_cubes a); cubes = o },
    )))

-- ---- the whole

raw-fields : (r : Raw) (rest : List Bool)
    → raw_bits r ++ rest ≡ headed r.inputs (length r.outputs) (length r.divisors) ((node_bits r.divisors ++ node_bits r.outputs) ++ rest)
raw-fields r rest =
    ap (◌++ rest) (net-bits (raw_net r)
    ∙ ap₂ (λ k ds. field_bits (head_fields r.inputs (length r.outputs) k) ++ (node_bits ds ++ node_bits r.outputs))
    (numbered-length r.inputs r.divisors) (numbered-cubes r.inputs r.divisors))
    ∙ append_assoc (field_bits (head_fields r.inputs (length r.outputs) (length r.divisors))) _ rest
    ∙ head-fields r.inputs (length r.outputs) (length r.divisors) _

head-put : (n m k : ℕ) (l : List Bool) → (1 ≤ n) × (n ≤ most_inputs) → (1 ≤ m) × (m ≤ most_outputs) → n + k ≤ most_variables
    → get_raw (headed n m k l) ≡ get_nodes n m k l
unfolding get_raw
head-put n m k l a b c =
    let n₁ : suc (n - 1) ≡ n = omega arith in
    let m₁ : suc (m - 1) ≡ m = omega arith in
    rw (
      field_put edition_field edition1.number (eqb edition1.number) (inputs_bits n ++ (outputs_bits m ++ (divisors_bits k ++ l))) (omega arith) refl,
      field_put edition1.inputs (n - 1) (λ x. true) (outputs_bits m ++ (divisors_bits k ++ l)) (omega arith) refl,
      field_put edition1.outputs (m - 1) (λ x. true) (divisors_bits k ++ l) (omega arith) refl,
      field_put edition1.divisors k (λ j. leb (suc (n - 1) + j) most_variables) l (omega arith) (le-leb (suc (n - 1) + k) most_variables (omega arith)),
      n₁,
      m₁,
    )

nodes-put : (r : Raw) (rest : List Bool) → FitRaw r
    → get_nodes r.inputs (length r.outputs) (length r.divisors) ((node_bits r.divisors ++ node_bits r.outputs) ++ rest) ≡ got r rest
unfolding get_nodes
nodes-put r rest h =
    let v = r.inputs + length r.divisors in
    rw (
      append_assoc (node_bits r.divisors) (node_bits r.outputs) rest,
      many-put (get_node v) node_fields r.divisors (node_bits r.outputs ++ rest)
          (λ f m. node-put v h.few f (h.nodes f (Memᴰ.append_left r.outputs m))),
      many-put (get_node v) node_fields r.outputs rest (λ f m. node-put v h.few f (h.nodes f (Memᴰ.append_right r.divisors m))),
    )

-- what was put is read, and what follows is left
pub get-put : (r : Raw) (rest : List Bool) → FitRaw r → get_raw (raw_bits r ++ rest) ≡ got r rest
get-put r rest h =
    ap get_raw (raw-fields r rest) ∙ head-put r.inputs (length r.outputs) (length r.divisors) _ h.inputs h.outputs h.few ∙ nodes-put r rest h

record GotNodes (n m k : ℕ) (l : List Bool) (r : Raw) (rest : List Bool) : Type 0 where
  bits : l ≡ (node_bits r.divisors ++ node_bits r.outputs) ++ rest
  inputs : r.inputs ≡ n
  outputs : length r.outputs ≡ m
  divisors : length r.divisors ≡ k
  nodes : (f : List (List ℕ)) → f ∈ raw_nodes r → FitNode (n + k) f

nodes-yields : (n m k : ℕ) (l : List Bool) → Yields (GotNodes n m k l) (get_nodes n m k l)
unfolding get_nodes
nodes-yields n m k l =
    let some = many-yields (get_node (n + k)) node_fields (FitNode (n + k)) (node-yields (n + k)) in
    then-yields (some k l) (λ ds r (a, i, p). then-yields (some m r) (λ os t (b, j, q). read (record {
      bits = a ∙ ap (node_bits ds ++◌) b ∙ simp append_assoc;
      inputs = refl;
      outputs = j;
      divisors = i;
      nodes = λ f x. elim (Memᴰ.append_cases ds x) [ inl y ↦ p f y | inr y ↦ q f y ];
    })))

raw-yields : (l : List Bool) → Yields (λ r rest. (l ≡ raw_bits r ++ rest) × FitRaw r) (get_raw l)
unfolding get_raw
raw-yields l =
    then-yields (field-yields edition_field (eqb edition1.number) l) (λ d l₁ (e₁, _, one).
    then-yields (field-yields edition1.inputs (λ x. true) l₁) (λ a l₂ (e₂, below, _).
    then-yields (field-yields edition1.outputs (λ x. true) l₂) (λ b l₃ (e₃, under, _).
    then-yields (field-yields edition1.divisors (λ k. leb (suc a + k) most_variables) l₃) (λ k l₄ (e₄, _, some).
    yields_more (nodes-yields (suc a) (suc b) k l₄) (λ r rest o. (
      e₁ ∙ ap₂ (λ x t. bits_of edition_field x ++ t) (sym (eqb-true edition1.number d one))
          (e₂ ∙ ap₂ (λ x t. bits_of edition1.inputs x ++ t) (omega (arith, o.inputs))
          (e₃ ∙ ap₂ (λ x t. bits_of edition1.outputs x ++ t) (omega (arith, o.outputs))
          (e₄ ∙ ap₂ (λ x t. divisors_bits x ++ t) (sym o.divisors) o.bits))) ∙ sym (raw-fields r rest),
      record {
        inputs = omega (arith, o.inputs);
        outputs = omega (arith, o.outputs);
        few = omega (arith, o.inputs, o.divisors, leb-true (suc a + k) most_variables some);
        nodes = rw (o.inputs, o.divisors) o.nodes;
      },
    ))))))

-- what is read was put, and fits
pub put-get : (l : List Bool) (r : Raw) (rest : List Bool) → get_raw l ≡ got r rest → (l ≡ raw_bits r ++ rest) × FitRaw r
put-get l r rest e = yields-out (rw e at (raw-yields l))
