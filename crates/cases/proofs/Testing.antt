-- The tests are of equality: what passes is the same, so a row that passes says what is so. Assumes nothing.
use Prim.Native.Nat.{ℕ, zero, suc}
use mathlib.Core.Path.{◌≡◌, refl, sym, ◌∙◌, ap, ap₂}
use mathlib.Core.Bool.{Bool, true, false≢true}
use mathlib.Core.List.{List, [], ◌∷◌, map}
use lib.Dec.{eqb}
use lib.ListN.{length}
use lib.IntN.{ℤ, pos, negsuc}
use borrow.Author.Tests.{eqb-true}
use Rattle.sets.{specs.Sets.same, proofs.Truth.both, proofs.Sets.same-eq}
use Rattle.division.specs.Division.{quotient}
use Rattle.cokernel.specs.Cokernels.{cokernels}
use Rattle.factor.specs.{Form.form_of, Text.form_text}
use Rattle.network.specs.Net.{Node, Net, literal_count, cubes_at}
use Rattle.extract_laws.specs.Divisor.{Divisor, pair, sum, own}
use Rattle.extract_laws.specs.Extract.{weight}
use Rattle.extract_laws.specs.Run.{Stop, done, asked, numbers, rows, Made, Result, run, asked_steps}
use Rattle.image_laws.specs.{Image.image_of, Reading.read_image}
use Rattle.network.specs.Handed.{Return, gives, refuses}
use Rattle.cases.specs.Tests.{alike, equal_cubes, same_integer, same_divisor, turn, same_stop, equal_node, same_net}
use Rattle.cases.specs.Cases.{Case, has_cokernels, divides, has_text, counts, weighs, takes, ends, has_image, reads_back, begins, finishes}
use Rattle.cases.specs.{Cases.read_as, Cases.is_right, Meaning.Says}

-- ---- the tests

module _ {A : Type 0} (t : A → A → Bool) (k : (x y : A) → t x y ≡ true → x ≡ y) where
  pub alike-eq : (l m : List A) → alike t l m ≡ true → l ≡ m
  unfolding alike
  alike-eq [] [] h = refl
  alike-eq [] (y ∷ m) h = absurd (false≢true h)
  alike-eq (x ∷ l) [] h = absurd (false≢true h)
  alike-eq (x ∷ l) (y ∷ m) h = let q = both (t x y) (alike t l m) h in ap₂ ◌∷◌ (k x y q.0) (alike-eq l m q.1)

pub cubes-eq : (f g : List (List ℕ)) → equal_cubes f g ≡ true → f ≡ g
unfolding equal_cubes
cubes-eq f g h = alike-eq same same-eq f g h

pub integer-eq : (u v : ℤ) → same_integer u v ≡ true → u ≡ v
unfolding same_integer
integer-eq (pos a) (pos b) h = ap pos (eqb-true a b h)
integer-eq (pos a) (negsuc b) h = absurd (false≢true h)
integer-eq (negsuc a) (pos b) h = absurd (false≢true h)
integer-eq (negsuc a) (negsuc b) h = ap negsuc (eqb-true a b h)

pub divisor-eq : (d e : Divisor) → same_divisor d e ≡ true → d ≡ e
unfolding same_divisor
divisor-eq (pair p q) (pair r s) h = let w = both (eqb p r) (eqb q s) h in ap₂ pair (eqb-true p r w.0) (eqb-true q s w.1)
divisor-eq (pair p q) (sum c d) h = absurd (false≢true h)
divisor-eq (sum a b) (pair r s) h = absurd (false≢true h)
divisor-eq (sum a b) (sum c d) h = let w = both (same a c) (same b d) h in ap₂ sum (same-eq a c w.0) (same-eq b d w.1)

reason : ℕ → Stop
reason zero = done
reason (suc zero) = asked
reason (suc (suc zero)) = numbers
reason (suc (suc (suc n))) = rows

reason-turn : (r : Stop) → reason (turn r) ≡ r
unfolding reason turn
reason-turn done = refl
reason-turn asked = refl
reason-turn numbers = refl
reason-turn rows = refl

pub stop-eq : (r s : Stop) → same_stop r s ≡ true → r ≡ s
unfolding same_stop
stop-eq r s h = sym (reason-turn r) ∙ ap reason (eqb-true (turn r) (turn s) h) ∙ reason-turn s

pub node-eq : (e g : Node) → equal_node e g ≡ true → e ≡ g
unfolding equal_node
node-eq e g h =
    let q = both (eqb e.number g.number) (equal_cubes e.cubes g.cubes) h in
    λ i. record { number = eqb-true e.number g.number q.0 i; cubes = cubes-eq e.cubes g.cubes q.1 i }

pub net-eq : (n m : Net) → same_net n m ≡ true → n ≡ m
unfolding same_net
net-eq n m h =
    let q = both (eqb n.inputs m.inputs) _ h in
    let r = both (alike equal_cubes n.outputs m.outputs) (alike equal_node n.divisors m.divisors) q.1 in
    λ i. record {
      inputs = eqb-true n.inputs m.inputs q.0 i;
      outputs = alike-eq equal_cubes cubes-eq n.outputs m.outputs r.0 i;
      divisors = alike-eq equal_node node-eq n.divisors m.divisors r.1 i;
    }

-- ---- the rows

read-eq : (o : Return) (n : Net) → read_as o n ≡ true → o ≡ gives n
unfolding read_as
read-eq (gives m) n h = ap gives (net-eq m n h)
read-eq (refuses k) n h = absurd (false≢true h)

begins-eq : (r : Result) (v : ℕ) (d : Divisor) (w : ℤ) → begins r v d w ≡ true
    → (map (λ (s : Made). s.divisor) r.steps ≡ d ∷ []) × (map (λ (s : Made). s.weight) r.steps ≡ w ∷ []) × (cubes_at v r.network.divisors ≡ own d)
unfolding begins
begins-eq r v d w h =
    let p = both (alike same_divisor (map (λ (s : Made). s.divisor) r.steps) (d ∷ [])) _ h in
    let q = both (alike same_integer (map (λ (s : Made). s.weight) r.steps) (w ∷ [])) _ p.1 in
    (alike-eq same_divisor divisor-eq _ _ p.0, alike-eq same_integer integer-eq _ _ q.0, cubes-eq _ _ q.1)

finishes-eq : (r : Result) (k l : ℕ) (s : Stop) → finishes r k l s ≡ true → (length r.steps ≡ k) × (literal_count r.network ≡ l) × (r.stop ≡ s)
unfolding finishes
finishes-eq r k l s h =
    let p = both (eqb (length r.steps) k) _ h in
    let q = both (eqb (literal_count r.network) l) _ p.1 in
    (eqb-true _ _ p.0, eqb-true _ _ q.0, stop-eq _ _ q.1)

pub holds-says : (c : Case) → is_right c ≡ true → Says c
unfolding is_right
holds-says (has_cokernels f l) h = cubes-eq (cokernels f) l h
holds-says (divides f d q r) h = let p = both (equal_cubes (quotient f d) q) _ h in (cubes-eq _ _ p.0, cubes-eq _ _ p.1)
holds-says (has_text f t) h = same-eq (form_text (form_of f)) t h
holds-says (counts n l) h = eqb-true (literal_count n) l h
holds-says (weighs n d w) h = integer-eq (weight n d) w h
holds-says (takes n v d w) h = begins-eq (run 1 n) v d w h
holds-says (ends n k l s) h = finishes-eq (run asked_steps n) k l s h
holds-says (has_image n k b) h = same-eq (image_of (run k n).network) b h
holds-says (reads_back b n k) h = read-eq (read_image b) (run k n).network h
