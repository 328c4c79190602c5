-- The answers of `table::scan`.
use Rattle.std.proofs.Common.{◌≡◌, ◌∙◌, ◌+◌, ◌<◌, ◌≤◌, ◌-◌, ℕ, List, refl, take, drop, sym, ap, subst, arith, eqb, length, get_or, rules, tests}
use Rattle.std.proofs.lemmas.{Iterator.Splits.YieldsList-from_slice_split, List.length_push}
use Rattle.std.proofs.lemmas.Iterator.Consumers.{YieldsList-from_enumerate, YieldsList-turn, YieldsList-end}
use Rattle.std.proofs.lemmas.List.FromFn.{get_or-enumerate_from, length-enumerate_from}
use Rattle.std.specs.List.{slice_split}
use Rattle.expression.proofs.Words.{same-room}
use Rattle.table_lines.{specs.Text.lines_of, specs.Text.content, specs.declared.Span.Span, proofs.Lining.lines-split, proofs.Spans.span-content}
use Rattle.table_columns.proofs.Counting.{span-within}
use Rattle.table.specs.Table as table
use Rattle.table.specs.{Table.read_lines, Parts.Scans, Parts.stopped_at, declared.Scanned.Scanned}
use Rattle.table.proofs.Scanning.{lines-few, reading-first, reading-roomy, reading-over, reading-next, reading-stop}
use Rattle.table.proofs.scan.Goals as goal
use Rattle.table.proofs.scan.Goals.{In-Some, After-content_of-span}

-- the line of a turn is the next of the lines, and its number is how many came before it
next_line : (c : In-Some) → let k = length c.loop-i.yielded in let ls = lines_of c.args.text.now in
    (k < length ls) × (c.in-Some.i ≡ k) × (c.in-Some.l.now ≡ get_or ls k c.in-Some.l.now)
next_line c =
    let p = slice_split (λ b. eqb b 10) c.args.text.now in
    let k = length c.loop-i.yielded in
    let l = c.in-Some.l.now in
    let t = YieldsList-turn
    (YieldsList-from_enumerate
    (YieldsList-from_slice_split _ (λ b. eqb b 10) c.args.text.now (cc) (cc)
    (ap (λ s. s.iter.pred) c.into_iter-i-iterator.ensures.into_iter_gives ∙ ap (λ s. s.pred) c.enumerate-i-items.ensures.source ∙ c.split.ensures.closure)
    (λ x b q k. search (rules, tests))) (cc))
    c.loop-i.yielded _ c.loop-i.yielded_by _ _ (c.in-Some.i, c.in-Some.l) c.in-Some.is c.next.ensures.steps in
    let h : k < length p = omega (arith, t.0, length-enumerate_from 0 p) in
    let e : ◌≡◌ {A = ℕ × List ℕ} (c.in-Some.i, l) (0 + k, get_or p k l) = t.1 ∙ get_or-enumerate_from 0 p k (c.in-Some.i, l) h in
    let n : c.in-Some.i ≡ 0 + k = ap (λ (x : ℕ × List ℕ). x.0) e in (
      omega (arith, ap length (lines-split c.args.text.now)),
      omega arith,
      ap (λ (x : ℕ × List ℕ). x.1) e ∙ ap (λ (ls : List (List ℕ)). get_or ls k l) (lines-split c.args.text.now),
    )

-- what is left of a line stands within it
within : (c : After-content_of-span) → let z = c.content_of-span.result in (z.start ≤ z.end) × (z.end ≤ length c.in-Some.l.now)
within c = span-within c.in-Some.l.now c.content_of-span.result c.content_of-span.ensures

left : (c : After-content_of-span) → let z = c.content_of-span.result in take (z.end - z.start) (drop z.start c.in-Some.l.now) ≡ content c.in-Some.l.now
left c = ap (λ (z : Span). take (z.end - z.start) (drop z.start c.in-Some.l.now)) c.content_of-span.ensures ∙ span-content c.in-Some.l.now

pub loop-i-init : goal.loop-i-init
loop-i-init c = (refl, refl, reading-first _ _ _)

pub slice_bounds-take_line-end : goal.slice_bounds-take_line-end
slice_bounds-take_line-end c = (within (goal.at.slice_bounds-take_line-end c).After-content_of-span).1

pub take_line-turn-requires : goal.take_line-turn-requires
take_line-turn-requires c =
    let t = next_line (goal.at.take_line-turn-requires c).In-Some in
    reading-roomy c.loop-i.invariant.2 (omega (arith, t.0, lines-few c.args.text.now, c.requires.short))
    (same-room c.loop-i.words c.args.words.now c.loop-i.invariant.0 ∙ c.requires.places) (c.loop-i.invariant.1 ∙ c.requires.masks)

pub returns-in_default : goal.returns-in_default
returns-in_default c =
    let w = goal.at.returns-in_default c in
    let t = next_line w.In-Some in
    subst (λ (x : Scanned). Scans (read_lines 1 (lines_of c.args.text.now) table.start) x c.take_line-turn.new.words c.take_line-turn.new.marks)
    (sym (c.stopped.ensures ∙ ap (λ (n : ℕ). stopped_at c.take_line-turn.result c.in-Some.l.now (n + 1) c.loop-i.s) t.1))
    (reading-stop c.loop-i.invariant.2 _ _ c.take_line-turn.result t.0 t.2 (left w.After-content_of-span) c.take_line-turn.ensures
    (λ s. c.in_default.not-Next s))

pub loop-i-preserved : goal.loop-i-preserved
loop-i-preserved c =
    let w = goal.at.loop-i-preserved c in
    let t = next_line w.In-Some in (
      search rules,
      search rules,
      rw (length_push c.loop-i.yielded (c.in-Some.i, c.in-Some.l))
          (reading-next c.loop-i.invariant.2 _ _ c.take_line-turn.result t.0 t.2 (left w.After-content_of-span) c.take_line-turn.ensures _ c.in-Next.is),
    )

pub returns : goal.returns
returns c =
    let p = slice_split (λ b. eqb b 10) c.args.text.now in
    let e = YieldsList-end
    (YieldsList-from_enumerate
    (YieldsList-from_slice_split _ (λ b. eqb b 10) c.args.text.now (cc) (cc)
    (ap (λ s. s.iter.pred) c.into_iter-i-iterator.ensures.into_iter_gives ∙ ap (λ s. s.pred) c.enumerate-i-items.ensures.source ∙ c.split.ensures.closure)
    (λ x b q k. search (rules, tests))) (cc))
    c.loop-i.yielded _ c.loop-i.yielded_by _ _ c.in-None.is c.next.ensures.steps in
    rw c.whole.ensures (reading-over c.loop-i.invariant.2 (omega (arith, e.1, length-enumerate_from 0 p, ap length (lines-split c.args.text.now))))
