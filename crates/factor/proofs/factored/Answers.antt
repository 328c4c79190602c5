-- `factor::factored` meets its contract: the length is found with no room, and then the text is written or refused. Assumes nothing.
use mathlib.Core.Path.{◌≡◌, refl, sym, ◌∙◌, ap}
use mathlib.Core.{Option.none}
use Prim.Native.Nat.{◌≤◌}
use native.Mathlib.Omega.{arith}
use lib.ListN.{length}
use Rattle.expression.{specs.Words.cubes_of, proofs.Words.spare-length}
use Rattle.expression.specs.Answers.{most_handed, refusal, refusal_of}
use Rattle.expression_accept.proofs.Accepting.{accepted-iff}
use Rattle.letters.proofs.Laying.{laid-whole, laid-long, laid-short}
use Rattle.letters.proofs.Telling.{told-before, told-long, told-whole}
use Rattle.factor.proofs.factored.Goals as goal
use Rattle.factor.proofs.factored.Goals.{In_default}

pub returns-in-Refused : goal.returns-in-Refused
returns-in-Refused c = rw (sym c.accept-v.ensures ∙ ap refusal_of c.in-Refused.is) (told-before _ _ _)

-- an expression of at most 1,024 cubes
accepted : (c : In_default) → refusal c.args.f.now ≡ none
accepted c = sym c.accept-v.ensures ∙ ap refusal_of c.in_default.is

few : (c : In_default) → length (cubes_of c.args.f.now) ≤ most_handed
few c = let f = c.args.f.now in omega (arith, spare-length f, ((accepted-iff f).0 (accepted c)).0)

pub text-n-requires : goal.text-n-requires
text-n-requires c = few (goal.at.text-n-requires c).In_default

pub returns-then-o-n : goal.returns-then-o-n
returns-then-o-n c =
    let long = laid-long c.text-n.ensures (length c.args.o.now) (omega arith) c.if-o-n.true in
    rw (accepted (goal.at.returns-then-o-n c).In_default) (told-long _ _ _ long refl)

pub text-requires : goal.text-requires
text-requires c = few (goal.at.text-requires c).In_default

pub returns : goal.returns
returns c =
    let n = laid-short c.text-n.ensures (length c.args.o.now) (omega arith) c.if-o-n.false in
    rw (accepted (goal.at.returns c).In_default) (told-whole _ _ _ _ (omega arith) n (laid-whole c.text.ensures (omega arith)))
