-- Reading goes along the layout of an image: where it comes to a bad end, and by which number. Assumes nothing.
use Prim.Native.Nat.{ℕ, zero, suc, ◌+◌, ◌≤◌}
use mathlib.Core.Path.{◌≡◌, refl, sym, ap, ◌∙◌, subst}
use mathlib.Core.Bool.{Bool, true, false, cond}
use mathlib.Core.List.{List, [], ◌∷◌, ◌++◌, append_assoc, append-nil}
use borrow.Author.Tests.{ltb-true, ltb-false, lt-ltb}
use lib.Dec.{ltb}
use lib.ListN.{length, take, drop, take-append-drop}
use lib.Seq.{length-take-le}
use Rattle.image_fields.specs.Fields.{value_of}
use Rattle.image_laws.specs.Widths.{edition1}
use Rattle.image_laws.specs.Reading.{Parsed, got, bad, and_then, get_field, get_many, get_literals, get_cube, get_node, Raw, get_nodes, get_raw}
use Rattle.image_laws.specs.Layout.{Layout, ends, next, many_layout, literals_layout, cube_layout, node_layout, nodes_layout, image_layout, Meets}
use Rattle.image_laws.specs.Layout.{here, later, Stray, Cut}
use Rattle.image_laws.proofs.Reading.{field-whole}

-- field by field
read_by : Layout → List Bool → Parsed Raw
read_by (ends r) l = got r l
read_by (next w ok g) l = and_then (get_field w ok l) (λ x r. read_by (g x) r)

-- ---- an image is read so

-- what is read, then what follows
abbrev As : {A : Type 0} → (List Bool → Parsed A) → ((A → Layout) → Layout) → Type 0
As {A} f g = (k : A → Layout) (l : List Bool) → read_by (g k) l ≡ and_then (f l) (λ x r. read_by (k x) r)

module _ {A B : Type 0} where
  then-then : (m : Parsed A) (f : A → List Bool → Parsed B) (k : B → List Bool → Parsed Raw) (p : A → List Bool → Parsed Raw)
      → ((x : A) (r : List Bool) → p x r ≡ and_then (f x r) k) → and_then m p ≡ and_then (and_then m f) k
  then-then (got x r) f k p h = h x r
  then-then (bad e) f k p h = refl

many-as : {A : Type 0} (f : List Bool → Parsed A) (g : (A → Layout) → Layout) → As f g → (n : ℕ) → As (get_many f n) (many_layout g n)
unfolding get_many many_layout read_by
many-as f g h zero k l = refl
many-as f g h (suc n) k l =
    h (λ x. many_layout g n (λ xs. k (x ∷ xs))) l
    ∙ then-then (f l) _ _ _ (λ x r. many-as f g h n (λ xs. k (x ∷ xs)) r ∙ then-then (get_many f n r) _ _ _ (λ xs t. refl))

literals-as : (v n : ℕ) (seen : List ℕ) → As (get_literals v n seen) (literals_layout v n seen)
unfolding get_literals literals_layout read_by
literals-as v zero seen k l = refl
literals-as v (suc n) seen k l =
    then-then (get_field edition1.literal _ l) _ _ _
    (λ x r. literals-as v n (x ∷ seen) (λ xs. k (x ∷ xs)) r ∙ then-then (get_literals v n (x ∷ seen) r) _ _ _ (λ xs t. refl))

cube-as : (v : ℕ) → As (get_cube v) (cube_layout v)
unfolding get_cube cube_layout read_by
cube-as v k l = then-then (get_field edition1.literals _ l) _ _ _ (λ c r. literals-as v c [] k r)

node-as : (v : ℕ) → As (get_node v) (node_layout v)
unfolding get_node node_layout read_by
node-as v k l = then-then (get_field edition1.cubes _ l) _ _ _ (λ c r. many-as (get_cube v) (cube_layout v) (cube-as v) c k r)

nodes-as : (n m k : ℕ) (l : List Bool) → read_by (nodes_layout n m k) l ≡ get_nodes n m k l
unfolding get_nodes nodes_layout read_by
nodes-as n m k l = simp (many-as (get_node (n + k)) (node_layout (n + k)) (node-as (n + k)))

image-as : (l : List Bool) → read_by image_layout l ≡ get_raw l
unfolding get_raw image_layout read_by
image-as l = simp nodes-as

-- ---- the two ends

-- what is read along a layout: all of it, or else which end the bits meet
pub data Along (g : Layout) (l : List Bool) : Parsed Raw → Type 0 where
  all : {r : Raw} {rest : List Bool} → Along g l (got r rest)
  strays : Meets Stray g l → Along g l (bad 12)
  stops : Meets Cut g l → Along g l (bad 11)

module _ (w : ℕ) (ok : ℕ → Bool) (g : ℕ → Layout) (l : List Bool) (All-there : w ≤ length l) where
  past : {End : ℕ → (ℕ → Bool) → List Bool → Type 0} → ok (value_of (take w l)) ≡ true → Meets End (g (value_of (take w l))) (drop w l)
      → Meets End (next w ok g) l
  past {End} y m = subst (Meets End (next w ok g)) (take-append-drop w l) (later (take w l) (length-take-le w l All-there) y m)

  along-past : ok (value_of (take w l)) ≡ true → {o : Parsed Raw} → Along (g (value_of (take w l))) (drop w l) o → Along (next w ok g) l o
  along-past y all = all
  along-past y (strays m) = strays (past y m)
  along-past y (stops m) = stops (past y m)

read-along : (g : Layout) (l : List Bool) → Along g l (read_by g l)
unfolding read_by get_field
read-along (ends r) l = all
read-along (next w ok g) l = go (ltb (length l) w) (ok (value_of (take w l))) refl refl (read-along (g (value_of (take w l))) (drop w l))
  where
    go : (c d : Bool) → ltb (length l) w ≡ c → ok (value_of (take w l)) ≡ d
        → Along (g (value_of (take w l))) (drop w l) (read_by (g (value_of (take w l))) (drop w l))
        → Along (next w ok g) l (and_then (cond c (bad 11) (cond d (got (value_of (take w l)) (drop w l)) (bad 12))) (λ x r. read_by (g x) r))
    go true d p q a = stops (here (ltb-true (length l) w p))
    go false true p q a = along-past w ok g l (ltb-false (length l) w p) q a
    go false false p q a = strays (here (record {
      front = take w l;
      rest = drop w l;
      bits = sym (take-append-drop w l);
      whole = length-take-le w l (ltb-false (length l) w p);
      out = q;
    }))

pub raw-along : (l : List Bool) → Along image_layout l (get_raw l)
raw-along l = subst (Along image_layout l) (image-as l) (read-along image_layout l)

-- ---- each end has its number

meets-read : {End : ℕ → (ℕ → Bool) → List Bool → Type 0} {g : Layout} {l : List Bool} (m : List Bool) (e : ℕ)
    → ((w : ℕ) (ok : ℕ → Bool) (r : List Bool) → End w ok r → get_field w ok (r ++ m) ≡ bad e) → Meets End g l → read_by g (l ++ m) ≡ bad e
unfolding read_by
meets-read m e h (here {w = w} {ok = ok} {l = l} x) = rw (h w ok l x)
meets-read m e h (later {w = w} {ok = ok} {l = l} b n y t) = rw (append_assoc b l m, field-whole w ok b (l ++ m) n, y) (meets-read m e h t)

-- a field out of range that is met is refused whatever follows
pub stray-read : {l : List Bool} (m : List Bool) → Meets Stray image_layout l → get_raw (l ++ m) ≡ bad 12
stray-read {l} m t = sym (image-as (l ++ m)) ∙ meets-read m 12
    (λ w ok r s. rw (s.bits, append_assoc s.front s.rest m, field-whole w ok s.front (s.rest ++ m) s.whole, s.out)) t

pub cut-read : (l : List Bool) → Meets Cut image_layout l → get_raw l ≡ bad 11
unfolding get_field
cut-read l t = sym (ap get_raw (append-nil l)) ∙ sym (image-as (l ++ [])) ∙ meets-read [] 11 (λ w ok r s. rw (append-nil r, lt-ltb (length r) w s)) t
