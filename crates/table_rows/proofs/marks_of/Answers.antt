-- The answers of `table_rows::marks_of`.
use Rattle.std.proofs.Common.{◌∙◌, ◌<◌, ◌≤◌, ◌^◌, ◌+◌, ◌*◌, [], ◌∷◌, Bor, ℕ, Bool, true, false, List, sym, ap, arith, map, reverse, eqb, length}
use Rattle.std.proofs.lemmas.Iterator.{Adapters.YieldsList-from_rev_slice, Consumers.YieldsList-turn, Consumers.YieldsList-end}
use Rattle.std.proofs.lemmas.List.{reverse-reverse, length-reverse, length-map, map-append}
use mir.Val.{bool_byte}
use Rattle.sets.specs.Masks.{packed}
use Rattle.table_rows.{specs.Lines.most_places, proofs.Cubing.marks-next, proofs.Cubing.marks-lt}
use Rattle.table_rows.proofs.marks_of.Goals as goal

pub loop-b-init : goal.loop-b-init
unfolding packed
loop-b-init c = omega arith

-- the mask so far is below 2 to the number of places
small : (o : List ℕ) (l : List (Bor ℕ)) → length o ≤ most_places → length l < length (reverse o)
    → packed (map (eqb 49) (reverse (map (λ (b : Bor ℕ). b.now) l))) < 2 ^ most_places
small o l h k = marks-lt (reverse (map (λ (b : Bor ℕ). b.now) l)) (simp (length-reverse, length-map) (omega (arith, length-reverse o)))

pub overflow_mul-mask : goal.overflow_mul-mask
overflow_mul-mask c =
    let t = YieldsList-turn (YieldsList-from_rev_slice c.args.o.now cc) c.loop-b.yielded _ c.loop-b.yielded_by _ _ c.in-Some.b c.in-Some.is
    c.next.ensures.steps in
    record { fits = omega (arith, c.loop-b.invariant, small c.args.o.now c.loop-b.yielded c.requires t.0) }

bit-le : (e : Bool) → bool_byte e ≤ 1
bit-le true = omega arith
bit-le false = omega arith

pub overflow_add-mask : goal.overflow_add-mask
overflow_add-mask c =
    let t = YieldsList-turn (YieldsList-from_rev_slice c.args.o.now cc) c.loop-b.yielded _ c.loop-b.yielded_by _ _ c.in-Some.b c.in-Some.is
    c.next.ensures.steps in
    record { fits = omega (arith, c.loop-b.invariant, small c.args.o.now c.loop-b.yielded c.requires t.0, c.from.ensures, bit-le (eqb c.in-Some.b.now 49)) }

pub loop-b-preserved : goal.loop-b-preserved
loop-b-preserved c =
    ap (λ (n : ℕ). 2 * c.loop-b.mask + n) c.from.ensures
    ∙ ap (λ (n : ℕ). 2 * n + bool_byte (eqb c.in-Some.b.now 49)) c.loop-b.invariant
    ∙ sym (marks-next (map (λ (b : Bor ℕ). b.now) c.loop-b.yielded) c.in-Some.b.now)
    ∙ ap (λ (l : List ℕ). packed (map (eqb 49) (reverse l))) (sym (map-append (λ (b : Bor ℕ). b.now) c.loop-b.yielded (c.in-Some.b ∷ [])))

pub returns : goal.returns
returns c =
    let e = YieldsList-end (YieldsList-from_rev_slice c.args.o.now cc) c.loop-b.yielded _ c.loop-b.yielded_by _ _ c.in-None.is c.next.ensures.steps in
    c.loop-b.invariant ∙ ap (λ (l : List ℕ). packed (map (eqb 49) (reverse l))) e.0
    ∙ ap (λ (l : List ℕ). packed (map (eqb 49) l)) (reverse-reverse c.args.o.now)
