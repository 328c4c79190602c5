-- What the test of the rules says in words, and what a text is answered: 14 for the form, then 15 for what is defined, then 10, each exactly when,
-- by the tests of a model in words. Assumes nothing.
use Prim.Native.Nat.{ℕ}
use mathlib.Core.Path.{◌≡◌, refl, sym, ap, ◌∙◌, subst}
use mathlib.Core.{Logic.◌↔◌, List.List}
use mathlib.Core.Bool.{Bool, true, false, cond}
use mathlib.Core.Option.{Option, none, some, none-ne-some}
use native.Mathlib.Omega.{arith}
use lib.Dec.{leb}
use lib.ListN.{length}
use borrow.Author.Tests.{leb-true, le-leb, eqb-true, eq-eqb}
use Rattle.sets.{specs.Lists.all, proofs.Lists.all_in, proofs.Lists.all-out}
use Rattle.sets.proofs.Truth.{both, together, clash, refuted}
use Rattle.expression.specs.Expression.{expression}
use Rattle.network.specs.Net.{Net, nodes, over, variables, cube_count, literal_count}
use Rattle.network.specs.{Listing.listing, Rules.InTurn, Rules.Lawful, Handed.Return, Handed.gives, Handed.refuses}
use Rattle.network.specs.Held.{numbered, ruled, up_to, most_inputs, most_outputs, most_variables, most_cubes, most_literals}
use Rattle.network.proofs.Numbering.{numbered-cubes, numbered-distinct, known-below, below-known, over-in, over-out}
use Rattle.network.proofs.{Holding.up-out, Listings.listing-acyclic, Listings.good-sound}
use Rattle.image_laws.{specs.Meaning.OneOrder, proofs.Fielding.divisor_cubes}
use Rattle.blif_laws.specs.Text.{Model, model_of}
use Rattle.blif_laws.specs.Reading.{joined, model_in, gapless, defined_once, net_in, keeps_rules, judge_model, read_blif}
use Rattle.blif_laws.specs.Meaning.{InForm, Gap, Misdefined, SameModel, BlifAnswer, formless, gapped, ill_defined, unruly, taken}
use Rattle.blif_laws.proofs.{Forming.model-iff, Forming.form-one, Matching.models-iff}
use Rattle.blif_laws.proofs.Standing.{gap-iff, gapless-iff, once-iff, misdefined-iff}

-- ---- the rules

module _ (n : Net) (t : InTurn n) where
  keeps-into : keeps_rules n ≡ true → Lawful n
  unfolding keeps_rules ruled
  keeps-into h =
      let a = both (up_to most_inputs n.inputs) _ h in
      let b = both (up_to most_outputs (length n.outputs)) _ a.1 in
      let c = both (leb (variables n) most_variables) _ b.1 in
      let d = both (leb (cube_count n) most_cubes) _ c.1 in
      let e = both (all expression (nodes n)) _ d.1 in
      let f = both (all (over n) (nodes n)) _ e.1 in
      let g = both (leb (literal_count n) most_literals) _ f.1 in
      record {
        inputs = up-out most_inputs n.inputs a.0;
        outputs = up-out most_outputs (length n.outputs) b.0;
        within = record {
          variables = leb-true (variables n) most_variables c.0;
          cubes = leb-true (cube_count n) most_cubes d.0;
          literals = leb-true (literal_count n) most_literals g.0;
        };
        good = record {
          expressions = λ x m. all-out expression m e.0;
          known = λ x m v r. known-below n (divisor_cubes n) t v (over-out n (nodes n) f.0 x m v r);
          in_turn = t;
          acyclic = listing-acyclic n (numbered-distinct n (divisor_cubes n) t) (eqb-true (length (listing n)) (length n.divisors) g.1);
        };
      }

  keeps-back : Lawful n → keeps_rules n ≡ true
  unfolding keeps_rules ruled
  keeps-back w =
      together _ _ (together _ _ (le-leb 1 n.inputs w.inputs.0) (le-leb n.inputs most_inputs w.inputs.1))
      (together _ _ (together _ _ (le-leb 1 (length n.outputs) w.outputs.0) (le-leb (length n.outputs) most_outputs w.outputs.1))
      (together _ _ (le-leb (variables n) most_variables w.within.variables)
      (together _ _ (le-leb (cube_count n) most_cubes w.within.cubes)
      (together _ _ (all_in expression (nodes n) w.good.expressions)
      (together _ _ (over-in n (nodes n) (λ x m v r. below-known n (divisor_cubes n) t v (w.good.known x m v r)))
      (together _ _ (le-leb (literal_count n) most_literals w.within.literals)
      (eq-eqb (length (listing n)) (length n.divisors) (good-sound n w.good).whole)))))))

  -- a network that is numbered in turn passes the test exactly when it is one by the rules
  pub keeps-iff : (keeps_rules n ≡ true) ↔ Lawful n
  keeps-iff = (keeps-into, keeps-back)

pub in-turn : (d : Model) → InTurn (net_in d)
unfolding net_in
in-turn d = ap (numbered d.inputs) (sym (numbered-cubes d.inputs _))

pub lawful-iff : (d : Model) → (keeps_rules (net_in d) ≡ true) ↔ Lawful (net_in d)
lawful-iff d = keeps-iff (net_in d) (in-turn d)

-- ---- the whole

answered : (t : List ℕ) → BlifAnswer t (read_blif t)
unfolding read_blif
answered t = go (model_in (joined t)) refl
  where
    go : (o : Option Model) → model_in (joined t) ≡ o → BlifAnswer t (judge_model o)
    go none e = formless (λ d f. none-ne-some d (sym e ∙ (model-iff (joined t) d).1 f))
    go (some d) e = judge (gapless d) (defined_once d) (keeps_rules (net_in d)) refl refl refl
      where
        f : InForm (joined t) d
        f = (model-iff (joined t) d).0 e

        judge : (a b c : Bool) → gapless d ≡ a → defined_once d ≡ b → keeps_rules (net_in d) ≡ c
            → BlifAnswer t (cond a (cond b (cond c (gives (net_in d)) (refuses 10)) (refuses 15)) (refuses 14))
        judge false b c p q r = gapped f ((gap-iff d).0 p)
        judge true false c p q r = ill_defined f ((gapless-iff d).0 p) ((misdefined-iff d f.formed).0 q)
        judge true true false p q r = unruly f ((gapless-iff d).0 p) ((once-iff d f.formed).0 q)
            (λ n m. clash ((lawful-iff d).1 ((models-iff d f.formed n).0 m).2) r)
        judge true true true p q r = taken f ((models-iff d f.formed (net_in d)).1
            ((gapless-iff d).0 p, (once-iff d f.formed).0 q, (lawful-iff d).0 r, refl))

answer-is : (t : List ℕ) {r : Return} → BlifAnswer t r → read_blif t ≡ r
unfolding read_blif
answer-is t (formless k) = go (model_in (joined t)) refl
  where
    go : (o : Option Model) → model_in (joined t) ≡ o → judge_model o ≡ refuses 14
    go none e = refl
    go (some d) e = absurd (k d ((model-iff (joined t) d).0 e))
answer-is t (gapped {d = d} f g) = rw ((model-iff (joined t) d).1 f, (gap-iff d).1 g)
answer-is t (ill_defined {d = d} f g m) = rw ((model-iff (joined t) d).1 f, (gapless-iff d).1 g, (misdefined-iff d f.formed).1 m)
answer-is t (unruly {d = d} f g k l) =
    rw (
      (model-iff (joined t) d).1 f,
      (gapless-iff d).1 g,
      (once-iff d f.formed).1 k,
      refuted (λ h. l (net_in d) ((models-iff d f.formed (net_in d)).1 (g, k, (lawful-iff d).0 h, refl))),
    )
answer-is t (taken {d = d} {n = n} f m) =
    let q = (models-iff d f.formed n).0 m in
    rw ((model-iff (joined t) d).1 f, (gapless-iff d).1 q.0, (once-iff d f.formed).1 q.1, (lawful-iff d).1 q.2) (ap gives q.3)

-- a text is answered what is told, and nothing else
pub answer-iff : (t : List ℕ) (r : Return) → (read_blif t ≡ r) ↔ BlifAnswer t r
answer-iff t r = (λ e. subst (BlifAnswer t) e (answered t), answer-is t)

-- no two answers fit
pub answer-one : (t : List ℕ) (r s : Return) → BlifAnswer t r → BlifAnswer t s → r ≡ s
answer-one t r s a b = sym (answer-is t a) ∙ answer-is t b

-- ---- each answer

module _ (t : List ℕ) where
  pub refused-14-iff : (read_blif t ≡ refuses 14) ↔ ((d : Model) → InForm (joined t) d → Gap d)
  refused-14-iff = (λ e. into (answered t) e, λ k. back k (answered t))
    where
      into : {r : Return} → BlifAnswer t r → r ≡ refuses 14 → (d : Model) → InForm (joined t) d → Gap d
      into (formless k) e d f = absurd (k d f)
      into (gapped g h) e d f = subst Gap (form-one (joined t) _ d g f) h
      into (ill_defined g h m) e d f = let z : ◌≡◌ {A = ℕ} 15 14 = cc in absurd (omega arith)
      into (unruly g h k l) e d f = let z : ◌≡◌ {A = ℕ} 10 14 = cc in absurd (omega arith)
      into (taken g m) e d f = let z : ◌≡◌ {A = ℕ} 0 1 = cc in absurd (omega arith)

      back : ((d : Model) → InForm (joined t) d → Gap d) → {r : Return} → BlifAnswer t r → r ≡ refuses 14
      back k (formless h) = refl
      back k (gapped f g) = refl
      back k (ill_defined f g m) = absurd (g (k _ f))
      back k (unruly f g m l) = absurd (g (k _ f))
      back k (taken {d = d} {n = n} f m) = absurd (((models-iff d f.formed n).0 m).0 (k d f))

  pub refused-15-iff : (read_blif t ≡ refuses 15) ↔ ((d : Model) × InForm (joined t) d × (Gap d → ⊥) × Misdefined d)
  refused-15-iff = (λ e. into (answered t) e, λ (d, f, g, m). answer-is t (ill_defined f g m))
    where
      into : {r : Return} → BlifAnswer t r → r ≡ refuses 15 → (d : Model) × InForm (joined t) d × (Gap d → ⊥) × Misdefined d
      into (formless k) e = let z : ◌≡◌ {A = ℕ} 15 14 = cc in absurd (omega arith)
      into (gapped f g) e = let z : ◌≡◌ {A = ℕ} 15 14 = cc in absurd (omega arith)
      into (ill_defined {d = d} f g m) e = (d, f, g, m)
      into (unruly f g k l) e = let z : ◌≡◌ {A = ℕ} 10 15 = cc in absurd (omega arith)
      into (taken f m) e = let z : ◌≡◌ {A = ℕ} 0 1 = cc in absurd (omega arith)

  pub refused-10-iff : (read_blif t ≡ refuses 10)
      ↔ ((d : Model) × InForm (joined t) d × (Gap d → ⊥) × (Misdefined d → ⊥) × ((n : Net) → Lawful n → OneOrder n → SameModel d (model_of n) → ⊥))
  refused-10-iff = (λ e. into (answered t) e, λ (d, f, g, k, l). answer-is t (unruly f g k (λ n m. l n m.lawful m.order m.same)))
    where
      into : {r : Return} → BlifAnswer t r → r ≡ refuses 10
          → (d : Model) × InForm (joined t) d × (Gap d → ⊥) × (Misdefined d → ⊥) × ((n : Net) → Lawful n → OneOrder n → SameModel d (model_of n) → ⊥)
      into (formless k) e = let z : ◌≡◌ {A = ℕ} 10 14 = cc in absurd (omega arith)
      into (gapped f g) e = let z : ◌≡◌ {A = ℕ} 10 14 = cc in absurd (omega arith)
      into (ill_defined f g m) e = let z : ◌≡◌ {A = ℕ} 10 15 = cc in absurd (omega arith)
      into (unruly {d = d} f g k l) e = (d, f, g, k, λ n w o s. l n (record { lawful = w; order = o; same = s }))
      into (taken f m) e = let z : ◌≡◌ {A = ℕ} 0 1 = cc in absurd (omega arith)

  -- any model name, any order of blocks and rows, else only this form
  pub given-iff : (n : Net) → (read_blif t ≡ gives n) ↔ (Lawful n × OneOrder n × ((d : Model) × InForm (joined t) d × SameModel d (model_of n)))
  given-iff n = (λ e. into ((answer-iff t (gives n)).0 e), λ (w, o, (d, f, s)). answer-is t (taken f (record { lawful = w; order = o; same = s })))
    where
      into : {m : Net} → BlifAnswer t (gives m) → Lawful m × OneOrder m × ((d : Model) × InForm (joined t) d × SameModel d (model_of m))
      into (taken {d = d} f m) = (m.lawful, m.order, (d, f, m.same))
