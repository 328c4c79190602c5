-- `extract_partners::count_use` meets its contract: nothing is left alike, a literal is shared, or a use is put in. Assumes nothing.
use Prim.Native.Nat.{◌+◌, ◌*◌, ◌-◌, ◌≤◌}
use mathlib.Core.Path.{◌≡◌, sym, ap, ap₂, ◌∙◌}
use native.Mathlib.Omega.{arith}
use lib.ListN.{length}
use Rattle.sets.specs.{Lists.is_nil, Sets.same, Sets.apart, Sets.meet}
use Rattle.sets.proofs.Sets.{meet-none}
use Rattle.cube.{specs.Cube.width, proofs.Lits.lits-at-most}
use Rattle.extract_keys.specs.Keys.{part_code, two_codes}
use Rattle.expression.specs.Words.{cubes_of}
use Rattle.extract_partners.specs.Table.{part_at, left_at}
use Rattle.extract_partners.proofs.Using.{use-differs, use-shares, use-met}
use Rattle.extract_partners.proofs.count_use.Goals as goal
use Rattle.extract_partners.proofs.count_use.Goals.{After-count-3, After-is_empty, After-same}

-- the two tests
alike : (c : After-same) → c.same.result ≡ same (left_at (cubes_of c.args.f.now) c.args.v) (left_at (cubes_of c.args.f.now) c.args.w)
alike c = c.same.ensures ∙ ap₂ same c.left_at.ensures c.left_at-left.ensures

loose : (c : After-is_empty) → c.is_empty.result ≡ apart (part_at c.args.v) (part_at c.args.w)
loose c =
    c.is_empty.ensures ∙ ap is_nil (c.common.ensures ∙ ap₂ meet c.part_at-a.ensures c.part_at-b.ensures) ∙ meet-none _ _

pub returns-then-not-same : goal.returns-then-not-same
returns-then-not-same c = use-differs _ _ _ _ _ (sym (alike (goal.at.returns-then-not-same c).After-same) ∙ c.if-not-same.true)

pub returns-then-not-is_empty : goal.returns-then-not-is_empty
returns-then-not-is_empty c = use-shares _ _ _ _ _ (sym (loose (goal.at.returns-then-not-is_empty c).After-is_empty) ∙ c.if-not-is_empty.true)

-- the counts of literals
few : (c : After-count-3) → (c.count.result ≤ 2 * width) × (c.count-2.result ≤ 2 * width) × (c.count-3.result ≤ 2 * width)
few c = (
  rw c.count.ensures (lits-at-most _),
  rw c.count-2.ensures (lits-at-most _),
  rw c.count-3.ensures (lits-at-most _),
)

pub returns : goal.returns
returns c =
    use-met _ _ _ _ _ (sym (alike (goal.at.returns c).After-same) ∙ c.if-not-same.false) (sym (loose (goal.at.returns c).After-is_empty) ∙ c.if-not-is_empty.false)
    (c.sum_key.ensures ∙ ap₂ (λ x y. two_codes (part_code x) (part_code y)) c.part_at-a.ensures c.part_at-b.ensures)
    (ap₂ (λ x y. x + (y - 1)) (c.count.ensures ∙ ap length c.left_at-left.ensures)
    (ap₂ ◌+◌ (c.count-2.ensures ∙ ap length c.part_at-a.ensures) (c.count-3.ensures ∙ ap length c.part_at-b.ensures)))
    c.put.ensures

pub overflow_add-by : goal.overflow_add-by
overflow_add-by c = omega (arith, few c)

pub overflow_add-by-2 : goal.overflow_add-by-2
overflow_add-by-2 c = omega (arith, few c)

pub overflow_cast-by : goal.overflow_cast-by
overflow_cast-by c = omega (arith, few (goal.at.overflow_cast-by c).After-count-3)
