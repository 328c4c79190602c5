-- What the writer of images refuses before it looks at the room.
use Rattle.std.specs.Prelude.{ℕ, cond}
use Rattle.std.proofs.Math.Option.{Option, none, some}
use Rattle.network.specs.{Held.rules, declared.Network.Network}

-- 10 where the network breaks a rule
abbrev pub refused_by : Network → Option ℕ
refused_by n = cond (rules n) none (some 10)
