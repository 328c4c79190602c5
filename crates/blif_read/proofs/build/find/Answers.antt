-- The answers of `blif_read::build::find`.
use mathlib.Core.Path.{◌≡◌, sym, ap}
use borrow.Author.Rules.{rules}
use Rattle.blif_scan.specs.Scanning.{label_of}
use Rattle.blif_read.proofs.Finding.{label-one, left-next, left-none, found_here}
use Rattle.blif_read.proofs.build.find.Goals as goal

pub returns-then-eq : goal.returns-then-eq
returns-then-eq c =
    let e : c.in-Some.b.name ≡ c.args.name = search rules in
    found_here c.args.first c.args.name c.begin.result c.in-Some.ensures (ap label_of (sym e)) c.begin.ensures c.loop-b.invariant

pub loop-b-preserved : goal.loop-b-preserved
loop-b-preserved c =
    let n : c.in-Some.b.name ≡ c.args.name → ⊥ = search rules in
    λ m bs h b k. left-next h (c.loop-b.invariant m bs h b k) c.in-Some.ensures (λ e. n (sym (label-one c.args.name c.in-Some.b.name e)))

pub returns : goal.returns
returns c = λ m bs h b k. left-none h (c.loop-b.invariant m bs h b k) c.in_default.ensures
