-- The variables of cubes and of expressions: which they are, and those from a place on. Assumes nothing.
use Prim.Native.Nat.{ℕ, ◌*◌, ◌/◌, ◌%◌, ◌<◌}
use mathlib.Core.Path.{◌≡◌, refl, sym, ap, ap₂, ◌∙◌, subst}
use mathlib.Core.Logic.{inl, inr, ◌↔◌}
use mathlib.Core.Bool.{Bool, true, false, ◌&&◌, ◌||◌, or-false, or_assoc}
use mathlib.Core.List.Memᴰ.{head as here}
use mathlib.Core.List.Memᴰ.{tail as there}
use mathlib.Core.List.{List, [], ◌∷◌}
use native.Mathlib.Omega.{arith}
use lib.Dec.{eqb}
use borrow.Author.Tests.{eq-eqb, eqb-true, eqb-false}
use Rattle.sets.{specs.Literal.plain_of, specs.Literal.negated_of, specs.Sets.mem, specs.Sets.asc, proofs.Lists.◌∈◌}
use Rattle.sets.specs.Sets.{union}
use Rattle.sets.proofs.Truth.{iff, either, or_left, or_right, clash, decided}
use Rattle.sets.proofs.Sets.{mem-of, of_mem, insert-mem, union-mem, union-asc}
use Rattle.cube.specs.Cube.{width, lits, joined}
use Rattle.cube.specs.declared.Cube.{Cube}
use Rattle.cube.proofs.Lits.{lits-inside}
use Rattle.network.specs.Meaning.{Reads}
use Rattle.network_reads.specs.Reading.{variables_of, reads_of, Marks}
use Rattle.network_reads.proofs.Marking.{Gathers, gather-first, gather-one, gather-done}

-- ---- the variables of a cube

pub variables-in : {l : ℕ} {c : List ℕ} → l ∈ c → mem (l / 2) (variables_of c) ≡ true
unfolding variables_of
variables-in {l} (here {x = x} {xs = c} e) = insert-mem (l / 2) (x / 2) (variables_of c) ∙ or_left _ _ (eq-eqb (l / 2) (x / 2) (ap (◌/ 2) e))
variables-in {l} (there {x = x} {xs = c} m) = insert-mem (l / 2) (x / 2) (variables_of c) ∙ or_right (eqb (l / 2) (x / 2)) _ (variables-in m)

pub variables-out : (v : ℕ) (c : List ℕ) → mem v (variables_of c) ≡ true → (l : ℕ) × (l ∈ c) × (v ≡ l / 2)
unfolding variables_of mem
variables-out v [] h = clash h refl
variables-out v (x ∷ c) h = elim (either (eqb v (x / 2)) (mem v (variables_of c)) (sym (insert-mem v (x / 2) (variables_of c)) ∙ h)) [
  | inl t ↦ (x, here refl, eqb-true v (x / 2) t)
  | inr t ↦ let r = variables-out v c t in (r.0, there r.1, r.2)
]

-- a variable is there by one of its two literals
pub variable-is : (v : ℕ) (c : List ℕ) → mem v (variables_of c) ≡ (mem (plain_of v) c || mem (negated_of v) c)
variable-is v c = iff into back
  where
    into : mem v (variables_of c) ≡ true → (mem (plain_of v) c || mem (negated_of v) c) ≡ true
    into h =
        let r = variables-out v c h in
        elim (decided (eqb (r.0 % 2) 0)) [
          | inl t ↦ let e : r.0 ≡ plain_of v = omega (arith, eqb-true (r.0 % 2) 0 t, r.2) in or_left _ _ (ap (λ x. mem x c) (sym e) ∙ mem-of r.1)
          | inr t ↦ let e : r.0 ≡ negated_of v = omega (arith, eqb-false (r.0 % 2) 0 t, r.2) in
              or_right (mem (plain_of v) c) _ (ap (λ x. mem x c) (sym e) ∙ mem-of r.1)
        ]

    back : (mem (plain_of v) c || mem (negated_of v) c) ≡ true → mem v (variables_of c) ≡ true
    back h = elim (either (mem (plain_of v) c) (mem (negated_of v) c) h) [
      | inl t ↦ let e : plain_of v / 2 ≡ v = omega arith in subst (λ x. mem x (variables_of c) ≡ true) e (variables-in (of_mem (plain_of v) c t))
      | inr t ↦ let e : negated_of v / 2 ≡ v = omega arith in subst (λ x. mem x (variables_of c) ≡ true) e (variables-in (of_mem (negated_of v) c t))
    ]

-- those of two cubes together
pub variables-union : (v : ℕ) (a b : List ℕ) → mem v (variables_of (union a b)) ≡ (mem v (variables_of a) || mem v (variables_of b))
variables-union v a b =
    rw (variable-is v (union a b), variable-is v a, variable-is v b, union-mem (plain_of v) a b, union-mem (negated_of v) a b)
    (turn (mem (plain_of v) a) (mem (plain_of v) b) (mem (negated_of v) a) (mem (negated_of v) b))
  where
    turn : (p q n m : Bool) → ((p || q) || (n || m)) ≡ ((p || n) || (q || m))
    turn true q n m = refl
    turn false true true m = refl
    turn false true false m = refl
    turn false false true m = refl
    turn false false false m = refl

-- ---- the literals of a cube, one after the other

-- the variables that are marked, with those of the literals to come, are the cube's
pub record Passed (marked rest whole : List ℕ) : Type 0 where
  pub inside : (l : ℕ) → mem l rest ≡ true → l < 2 * width
  pub gathers : Gathers marked (λ v. mem v (variables_of rest)) (λ v. mem v (variables_of whole))

pub passed-first : {m : List ℕ} (c : Cube) → m ≡ [] → Passed m (lits c) (lits c)
passed-first c e = record { inside = lits-inside c; gathers = gather-first _ _ (λ v. refl) e }

pub passed-next : {m more rest whole : List ℕ} {l : ℕ} → Passed m (l ∷ rest) whole → more ≡ joined (plain_of (l / 2) % 4294967296) m → Passed more rest whole
unfolding variables_of mem
passed-next {m} {rest = rest} {l = l} p e =
    let k : l < 2 * width = p.inside l (or_left _ _ (eq-eqb l l refl)) in
    let q : plain_of (l / 2) % 4294967296 ≡ plain_of (l / 2) = omega arith in
    record {
      inside = λ x h. p.inside x (or_right (eqb x l) _ h);
      gathers = gather-one (l / 2) _ _ _ (λ u. insert-mem u (l / 2) (variables_of rest)) (omega arith) (e ∙ ap (λ x. joined x m) q) p.gathers;
    }

pub passed-done : {m whole : List ℕ} → Passed m [] whole → Marks m (variables_of whole)
unfolding variables_of mem
passed-done p = gather-done _ _ (λ v. refl) p.gathers

-- ---- the variables that an expression reads

-- by the cube that has the literal
reads-at : (v : ℕ) {c : List ℕ} {f : List (List ℕ)} → c ∈ f → (l : ℕ) × (l ∈ c) × (v ≡ l / 2) → mem v (reads_of f) ≡ true
unfolding reads_of
reads-at v (here {x = d} {xs = g} e) (l, j, p) =
    union-mem v (variables_of d) (reads_of g) ∙ or_left _ _ (ap₂ (λ (x : ℕ) (y : List ℕ). mem x (variables_of y)) p (sym e) ∙ variables-in j)
reads-at v (there {x = d} {xs = g} m) r =
    union-mem v (variables_of d) (reads_of g) ∙ or_right (mem v (variables_of d)) _ (reads-at v m r)

pub reads_in : (f : List (List ℕ)) (v : ℕ) → Reads f v → mem v (reads_of f) ≡ true
reads_in f v (c, m, r) = reads-at v m r

pub reads-out : (f : List (List ℕ)) (v : ℕ) → mem v (reads_of f) ≡ true → Reads f v
unfolding reads_of mem
reads-out [] v h = clash h refl
reads-out (c ∷ f) v h = elim (either (mem v (variables_of c)) (mem v (reads_of f)) (sym (union-mem v (variables_of c) (reads_of f)) ∙ h)) [
  | inl t ↦ (c, here refl, variables-out v c t)
  | inr t ↦ let r = reads-out f v t in (r.0, there r.1, r.2)
]

-- they ascend
pub reads-asc : (f : List (List ℕ)) → asc (reads_of f) ≡ true
unfolding reads_of
reads-asc [] = refl
reads-asc (c ∷ f) = union-asc _ (reads_of f) (reads-asc f)

-- exactly those of which a cube has a literal
pub reads-iff : (f : List (List ℕ)) (v : ℕ) → (mem v (reads_of f) ≡ true) ↔ Reads f v
reads-iff f v = (reads-out f v, reads_in f v)

-- ---- the literals of all cubes together

-- the variables of those, with what the cubes to come read, are what the whole reads
pub record Together (whole : List (List ℕ)) (all : List ℕ) (rest : List (List ℕ)) : Type 0 where
  pub each : (v : ℕ) → (mem v (variables_of all) || mem v (reads_of rest)) ≡ mem v (reads_of whole)

pub together-first : {all : List ℕ} (f : List (List ℕ)) → all ≡ [] → Together f all f
unfolding variables_of mem
together-first f e = record { each = λ v. rw e refl }

pub together-next : {f : List (List ℕ)} {all c more : List ℕ} {rest : List (List ℕ)} → Together f all (c ∷ rest) → more ≡ union all c → Together f more rest
unfolding reads_of
together-next {all = all} {c} {rest = rest} t e = record {
  each = λ v.
      rw (e, variables-union v all c)
      (or_assoc (mem v (variables_of all)) (mem v (variables_of c)) (mem v (reads_of rest))
      ∙ ap (mem v (variables_of all) ||◌) (sym (union-mem v (variables_of c) (reads_of rest))) ∙ t.each v);
}

pub together-done : {f : List (List ℕ)} {all r : List ℕ} → Together f all [] → Marks r (variables_of all) → Marks r (reads_of f)
unfolding reads_of mem
together-done {all = all} t m = record {
  each = λ x. m.each x ∙ ap (eqb (x % 2) 0 &&◌) (sym (or-false (mem (x / 2) (variables_of all))) ∙ t.each (x / 2));
}
