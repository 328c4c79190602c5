-- What is told of a text: 14 for the form and a gap, then 15, then 10, by what the passes over it found. Assumes nothing.
use Rattle.std.specs.Prelude.{Option as Maybe, Some, None}
use Rattle.std.specs.Option.{is_some}
use Prim.Native.Nat.{ℕ, suc, ◌+◌, ◌-◌, ◌≤◌, min}
use mathlib.Core.Path.{◌≡◌, refl, sym, ap, ap₂, ◌∙◌, subst}
use mathlib.Core.{Logic.inl, Logic.inr, List.List, List.map}
use mathlib.Core.Bool.{Bool, true, false, cond, ◌&&◌}
use mathlib.Core.Option.{Option, none, some}
use native.Mathlib.Omega.{arith}
use lib.Dec.{eqb, leb}
use lib.ListN.{length, length-map}
use borrow.Author.Tests.{leb-true, leb-false, le-leb, lt-leb}
use Rattle.sets.specs.{Lists.all, Lists.total, Lists.from, Sets.mem, Word.largest}
use Rattle.sets.proofs.{Truth.both, Truth.decided, Truth.clash, Truth.refuted, Rows.from-length}
use Rattle.expression.specs.declared.Verdict.TheVariants.{Accepted, Refused}
use Rattle.network.specs.Held.{numbered, ruled, net_of, up_to, most_inputs, most_outputs, most_variables, most_cubes}
use Rattle.network.specs.{Net.variables, Net.cube_count, Rules.Lawful, Answers.judged, declared.Network.Network, declared.Handed.Handed}
use Rattle.network.specs.Handed.{gives, refuses, Told, Shaped, Holds, Carries}
use Rattle.network.proofs.{Numbering.numbered-length, Handing.holds-net, Holding.up-out}
use Rattle.network.proofs.Ruling.{rules-lawful, holds-lawful, accepted-rules, refused-rules}
use Rattle.blif_laws.specs.Text.{variable, output, Block, Model}
use Rattle.blif_laws.specs.Reading.{joined, model_in, standing, gapless, times_defined, defined_once, divisors_in, net_in, keeps_rules, judge_model, read_blif}
use Rattle.blif_laws.specs.Reading.{cubes_for, is_blif}
use Rattle.blif_laws.proofs.Judging.{in-turn, lawful-iff}
use Rattle.blif_laws.proofs.{Beginning.blif-iff, Forming.model-iff}
use Rattle.letters_products.specs.Spelled.{spelled}
use Rattle.blif_scan.specs.Scanning.{left, EndedIs, by_space, by_line, by_end}
use Rattle.blif_scan.specs.declared.Ended.{Ended}
use Rattle.blif_form.specs.Surveying.{SurveyGot, SurveyNot}
use Rattle.blif_read.specs.Defining.{model_by, GaplessIs, OnceIs}
use Rattle.blif_read.specs.{Building.Buildable, Reading.few, Reading.FinishedIs}
use Rattle.blif_form.specs.declared.Survey.{Survey}
use Rattle.blif_lines.specs.Lining.{top_of}
use Rattle.blif_read.proofs.Summing.{gapless-top, once-top, divisors-top, inputs-top, cubes-sum, reads-top, divisor-there}

-- tests put together otherwise
regroup : {a b c e a' b' c' e' : Bool} → a ≡ a' → b ≡ b' → c ≡ c' → e ≡ e' → (z : Bool) → (a && (b && (c && (e && z)))) ≡ ((a' && (b' && (c' && e'))) && z)
regroup {a' = a'} {b'} {c'} {e'} p q r t z = rw (p, q, r, t) (go a' b' c' e')
  where
    go : (a b c e : Bool) → (a && (b && (c && (e && z)))) ≡ ((a && (b && (c && e))) && z)
    go false b c e = refl
    go true false c e = refl
    go true true false e = refl
    go true true true e = refl

-- ---- the text is not in the form

pub formless-told : {s : List ℕ} {r : Handed} → SurveyNot s → Told (refuses 14) r → Told (read_blif s) r
unfolding read_blif
formless-told {s} {r} w t = go (model_in (joined s)) refl
  where
    go : (o : Option Model) → model_in (joined s) ≡ o → Told (judge_model o) r
    go none e = t
    go (some d) e = rw (w.none d ((model-iff (joined s) d).0 e)) t

-- ---- the text is in the form

module _ {s : List ℕ} {v : Survey} (g : SurveyGot s v) (small : v.outputs ≤ largest) where
  abbrev pub model : Model
  model = g.model

  -- what is read off is judged
  judged-as : read_blif s ≡ judge_model (some model)
  unfolding read_blif
  judged-as = ap judge_model ((model-iff (joined s) model).1 g.form)

  same-model : model_by v.inputs model.outputs model.blocks ≡ model
  same-model = ap (λ (n : ℕ). model_by n model.outputs model.blocks) g.inputs

  gapless-found : (b : Bool) → GaplessIs s v.first v.inputs v.top b → b ≡ gapless model
  gapless-found b h =
      h model.outputs model.blocks (omega (arith, small, g.outputs)) g.blocks g.small
      ∙ ap₂ (λ (d : Model) (t : ℕ). all (λ w. mem w (standing d)) (from 0 t)) same-model g.top
      ∙ sym (gapless-top model)

  abbrev once-for : Model → ℕ → ℕ → Bool
  once-for d m t = all (λ u. eqb (times_defined d (variable u)) 1) (from 0 t) && all (λ j. eqb (times_defined d (output j)) 1) (from 0 m)

  once-found : (b : Bool) → gapless model ≡ true → OnceIs s v.first v.inputs v.outputs v.top b → b ≡ defined_once model
  once-found b e h =
      (subst (λ (m : ℕ). OnceIs s v.first v.inputs m v.top b) g.outputs h) model.blocks g.blocks g.small
      ∙ ap₂ (λ (d : Model) (t : ℕ). once-for d model.outputs t) same-model g.top
      ∙ sym (once-top model e)

  pub gap-told : {r : Handed} (b : Bool) → GaplessIs s v.first v.inputs v.top b → b ≡ false → Told (refuses 14) r → Told (read_blif s) r
  gap-told b h e t = rw (judged-as, sym (gapless-found b h) ∙ e) t

  module _ (b : Bool) (h : GaplessIs s v.first v.inputs v.top b) (e : b ≡ true) where
    gapless-is : gapless model ≡ true
    gapless-is = sym (gapless-found b h) ∙ e

    pub once-told : {r : Handed} (o : Bool) → OnceIs s v.first v.inputs v.outputs v.top o → o ≡ false → Told (refuses 15) r → Told (read_blif s) r
    once-told o k q t = rw (judged-as, gapless-is, sym (once-found o gapless-is k) ∙ q) t

    module _ (o : Bool) (k : OnceIs s v.first v.inputs v.outputs v.top o) (q : o ≡ true) where
      once_is : defined_once model ≡ true
      once_is = sym (once-found o gapless-is k) ∙ q

      left-to-judge : read_blif s ≡ cond (keeps_rules (net_in model)) (gives (net_in model)) (refuses 10)
      left-to-judge = judged-as ∙ rw (gapless-is, once_is)

      pub inputs-below : v.inputs ≤ v.top
      inputs-below = omega (arith, g.inputs, g.top, inputs-top model g.form.formed gapless-is once_is)

      divisors-are : divisors_in model ≡ v.top - v.inputs
      divisors-are = divisors-top model g.form.formed gapless-is once_is ∙ ap₂ ◌-◌ (sym g.top) (sym g.inputs)

      -- the network has so many outputs and variables
      outputs-are : length (net_in model).outputs ≡ v.outputs
      unfolding net_in
      outputs-are = length-map (from 0 model.outputs) _ ∙ from-length 0 model.outputs ∙ sym g.outputs

      variables-are : variables (net_in model) ≡ v.top
      unfolding net_in
      variables-are =
          let fs = map (λ (u : ℕ). cubes_for (variable u) model.blocks) (from model.inputs (divisors_in model)) in
          let l : length (numbered model.inputs fs) ≡ divisors_in model =
          numbered-length model.inputs fs ∙ length-map (from model.inputs (divisors_in model)) _ ∙ from-length model.inputs (divisors_in model) in
          omega (arith, l, divisors-are, inputs-below, g.inputs)

      cubes-are : leb (cube_count (net_in model)) most_cubes ≡ leb v.rows most_cubes
      cubes-are = ap (λ n. leb n most_cubes) (cubes-sum model g.form.formed gapless-is once_is)
          ∙ capped (total (λ (c : Block). length c.cubes) model.blocks) ∙ ap (λ n. leb n most_cubes) (sym g.rows)
        where
          capped : (n : ℕ) → leb n most_cubes ≡ leb (min n (suc most_cubes)) most_cubes
          capped n = elim (decided (leb n most_cubes)) [
            | inl l ↦ l ∙ sym (le-leb (min n (suc most_cubes)) most_cubes (omega (arith, leb-true n most_cubes l)))
            | inr l ↦ l ∙ sym (lt-leb (min n (suc most_cubes)) most_cubes (omega (arith, leb-false n most_cubes l)))
          ]

      -- the rules and limits are those sizes, and the rules
      inputs_are : (net_in model).inputs ≡ v.inputs
      unfolding net_in
      inputs_are = sym g.inputs

      keeps-are : keeps_rules (net_in model) ≡ (few v.inputs v.outputs v.top v.rows && ruled (net_in model))
      unfolding keeps_rules
      keeps-are =
          regroup (ap (up_to most_inputs) inputs_are) (ap (up_to most_outputs) outputs-are) (ap (λ n. leb n most_variables) variables-are) cubes-are
          (ruled (net_in model))

      pub many-told : {r : Handed} (x : Bool) → x ≡ few v.inputs v.outputs v.top v.rows → x ≡ false → Told (refuses 10) r → Told (read_blif s) r
      many-told x f n t = rw (left-to-judge, keeps-are, sym f ∙ n) t

      module _ (x : Bool) (f : x ≡ few v.inputs v.outputs v.top v.rows) (y : x ≡ true) where
        limits : (up_to most_inputs v.inputs ≡ true) × (up_to most_outputs v.outputs ≡ true) × (leb v.top most_variables ≡ true)
            × (leb v.rows most_cubes ≡ true)
        limits =
            let p = both (up_to most_inputs v.inputs) _ (sym f ∙ y) in
            let w = both (up_to most_outputs v.outputs) _ p.1 in
            let z = both (leb v.top most_variables) (leb v.rows most_cubes) w.1 in
            (p.0, w.0, z.0, z.1)

        pub can-build : Buildable v.inputs v.outputs (v.top - v.inputs)
        can-build = record {
          inputs = (up-out most_inputs v.inputs limits.0).1;
          outputs = (up-out most_outputs v.outputs limits.1).1;
          variables = omega (arith, inputs-below, leb-true v.top most_variables limits.2);
        }

        -- all variables are those below the top
        whole_top : model.inputs + (v.top - v.inputs) ≡ top_of (standing model)
        whole_top = omega (arith, inputs-below, g.inputs, g.top)

        rows_few : total (λ (c : Block). length c.cubes) model.blocks ≤ most_cubes
        rows_few = omega (arith, leb-true v.rows most_cubes limits.3, g.rows)

        pub finish-told : (r : Handed) → FinishedIs s v.first v.inputs v.outputs (v.top - v.inputs) r → Told (read_blif s) r
        finish-told r t =
            let t₁ = subst (λ (n : ℕ). FinishedIs s v.first n v.outputs (v.top - v.inputs) r) g.inputs t in
            let t₂ = subst (λ (m : ℕ). FinishedIs s v.first model.inputs m (v.top - v.inputs) r) g.outputs t₁ in
            rw left-to-judge (t₂ model.blocks g.blocks g.small once_is divisors-are
            (λ c i. rw whole_top (reads-top model g.form.formed gapless-is once_is c i)) rows_few
            (λ u h i. divisor-there model g.form.formed gapless-is once_is u h (omega (arith, whole_top))))

-- ---- the network that was built

-- built and judged: by the rules, or refused by 10
module _ (d : Model) {p : Network} (w : Shaped p) (h : Holds p (net_in d)) where
  held : net_of p ≡ net_in d
  held = holds-net p (net_in d) h (in-turn d)

  pub ruled-told : {r : Handed} → judged p ≡ Accepted → Carries p r → Told (cond (keeps_rules (net_in d)) (gives (net_in d)) (refuses 10)) r
  ruled-told {r} a c =
      let k = (lawful-iff d).1 (subst Lawful held (rules-lawful p w (accepted-rules p a))) in
      rw k (c.0, subst (λ (q : Network). Holds q (net_in d)) (sym c.1) h)

  pub unruled-told : {r : Handed} (x : ℕ) → judged p ≡ Refused x → Told (refuses 10) r → Told (cond (keeps_rules (net_in d)) (gives (net_in d)) (refuses 10)) r
  unruled-told {r} x a t = go (keeps_rules (net_in d)) refl
    where
      go : (b : Bool) → keeps_rules (net_in d) ≡ b → Told (cond b (gives (net_in d)) (refuses 10)) r
      go true e = clash (holds-lawful p (net_in d) h ((lawful-iff d).0 e)) (refused-rules p x a)
      go false e = t

-- ---- the first word

pub begun-told : (s : List ℕ) (e : Maybe Ended) → EndedIs s 0 (spelled ".model") e → is_some e ≡ is_blif s
begun-told s (Some (Ended.Space p)) h = sym ((blif-iff s).1 (by_space (left s p) h.0))
begun-told s (Some (Ended.Line p)) h = sym ((blif-iff s).1 (by_line (left s p) h.0))
begun-told s (Some Ended.Finish) h = sym ((blif-iff s).1 (by_end h))
begun-told s None h = sym (refuted (λ t. h ((blif-iff s).0 t)))
