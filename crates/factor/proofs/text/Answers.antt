-- `factor::text` meets its contract: the cubes are copied, put in cube order, and written as a sum. Assumes nothing.
use mathlib.Core.Path.{◌≡◌, refl, sym, ◌∙◌, ap}
use mathlib.Core.List.{List}
use Prim.Native.Nat.{ℕ, ◌*◌}
use native.Mathlib.Omega.{arith}
use lib.ListN.{length, take, replicate, length-take}
use Rattle.expression.{specs.Words.cube_words, specs.Words.cubes_of, specs.Answers.most_handed, proofs.Words.room-cubes, proofs.Words.cubes-take}
use Rattle.expression.specs.Expression.{sort}
use Rattle.factor.specs.Parts.{written_sum}
use Rattle.letters.proofs.Laying.{due_all, due-last}
use Rattle.factor.proofs.{Answering.sorted_front, Answering.text-sum}
use Rattle.factor.proofs.text.Goals as goal
use Rattle.factor.proofs.text.Goals.{After-sort_part}

-- the words that there are places for
abbrev places : List ℕ
places = replicate (cube_words * most_handed) 0

room : length (cubes_of places) ≡ most_handed
room = room-cubes places most_handed refl

-- what is handed to `sum` are the sorted cubes
sorted : (c : After-sort_part) → cubes_of (take (2 * c.number-n.result) c.sort_part.new.s) ≡ sort (cubes_of c.args.f.now)
sorted c =
    cubes-take c.sort_part.new.s c.number-n.result
    ∙ sorted_front c.args.f.now c.number-n.ensures (omega (arith, room, c.number-n.ensures, c.requires)) c.copy.ensures c.sort_part.ensures

pub sum-requires : goal.sum-requires
sum-requires c =
    omega (arith, ap length (cubes-take c.sort_part.new.s c.number-n.result), length-take c.number-n.result (cubes_of c.sort_part.new.s), room, c.number-n.ensures, c.requires)

pub returns : goal.returns
returns c =
    let front = sorted (goal.at.returns c).After-sort_part in
    due-last (due_all _ _ (omega arith) (omega arith) (sym (ap written_sum front ∙ text-sum c.args.f.now))) c.sum.ensures
