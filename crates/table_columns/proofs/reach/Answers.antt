-- The answers of `table_columns::reach`.
use Rattle.std.proofs.Common.{◌≡◌, ◌∙◌, ◌+◌, ◌-◌, ◌<◌, ◌≤◌, ℕ, List, ◌∷◌, sym, ap, refl, arith, length, map, get_or, drop, take, Option, Some, None, unwrap_or}
use lib.ListN.{length-map, length-drop, get_or-map, drop_of_length-le}
use Rattle.std.specs.List.{prefix_len}
use Rattle.sets.proofs.Places.{drop-next}
use Rattle.table_lines.proofs.Ends.{rest-whole}
use Rattle.table_columns.{specs.declared.Part.Part, specs.declared.Sort.TheVariants.Blank, proofs.reach.Goals.After-front-k}
use Rattle.table_columns.specs.Forms as good
use Rattle.table_columns.specs.{Forms.front, Forms.limit, Forms.reach, Parts.most_of, Parts.part_of}
use Rattle.table_columns.proofs.Counting.{front_is, reach-stop, reach-on, reach-inside, reach-done}
use Rattle.table_columns.proofs.reach.Goals as goal

abbrev no_part : Part
no_part = record { sort = Blank; least = 0; most = None }

most-is : (o : Option ℕ) (n : ℕ) → unwrap_or o n ≡ limit (most_of o) n
most-is None n = refl
most-is (Some k) n = refl

-- the part that begins at a place, and those that follow it
module _ (c : After-front-k) where
  abbrev text : List ℕ
  text = c.args.c.now

  abbrev at : ℕ
  at = c.loop-p.at

  abbrev form : List good.Part
  form = map part_of c.args.parts.now

  abbrev part : good.Part
  part = part_of (get_or c.args.parts.now c.loop-p.p-index no_part)

  abbrev others : List good.Part
  others = drop (c.loop-p.p-index + 1) form

  onward : at + reach (part ∷ others) (drop at text) ≡ reach form text
  onward =
      let i = c.loop-p.p-index in
      let j : i < length form = omega (arith, length-map c.args.parts.now part_of) in
      let next = drop-next form i (part_of no_part) j ∙ ap (◌∷ others) (get_or-map part_of c.args.parts.now i no_part) in
      ap (λ (l : List good.Part). at + reach l (drop at text)) (sym next) ∙ c.loop-p.invariant.1

  counted : c.front-k.result ≡ front part.test (limit part.most (length text - at)) (drop at text)
  counted =
      let t = rest-whole at text in
      let n : c.unwrap_or.result ≡ limit part.most (length text - at) =
      c.unwrap_or.ensures ∙ most-is (get_or c.args.parts.now c.loop-p.p-index no_part).most _ ∙ ap (limit part.most) (ap length t ∙ length-drop at text) in
      c.front-k.ensures
      ∙ ap (λ (l : List ℕ). prefix_len part.test (take c.unwrap_or.result l)) t
      ∙ ap (λ (k : ℕ). prefix_len part.test (take k (drop at text))) n
      ∙ sym (front_is part.test (limit part.most (length text - at)) (drop at text))

  bound : at + c.front-k.result ≤ length text
  bound = reach-inside part others text at c.front-k.result counted c.loop-p.invariant.0

  stop : c.front-k.result < part.least → at + c.front-k.result ≡ reach form text
  stop h = sym (reach-stop part others text at c.front-k.result counted h) ∙ onward

  on : part.least ≤ c.front-k.result → (at + c.front-k.result) + reach others (drop (at + c.front-k.result) text) ≡ reach form text
  on h = sym (reach-on part others text at c.front-k.result counted h) ∙ onward

pub overflow_add-at : goal.overflow_add-at
overflow_add-at c = record { fits = omega (arith, bound c) }

pub returns-then-k-p : goal.returns-then-k-p
returns-then-k-p c = stop (goal.at.returns-then-k-p c).After-front-k c.if-k-p.true

pub loop-p-preserved : goal.loop-p-preserved
loop-p-preserved c = (bound (goal.at.loop-p-preserved c).After-front-k, on (goal.at.loop-p-preserved c).After-front-k c.if-k-p.false)

pub returns : goal.returns
returns c =
    let e : length (map part_of c.args.parts.now) ≤ c.loop-p.p-index = omega (arith, length-map c.args.parts.now part_of) in
    sym (reach-done c.args.c.now c.loop-p.at)
    ∙ ap (λ (l : List good.Part). c.loop-p.at + reach l (drop c.loop-p.at c.args.c.now)) (sym (drop_of_length-le (map part_of c.args.parts.now) e))
    ∙ c.loop-p.invariant.1
