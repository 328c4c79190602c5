-- What reading a table answers.
use Rattle.std.specs.Prelude.{◌≡◌}
use Rattle.network.specs.Handed.{Holds, AllZero}
use Rattle.table.specs.Table.{Outcome, accepted, refused, table_net}
use Rattle.table.specs.declared.{Answer.TheVariants.Read, Answer.TheVariants.Refused, Table.Table}

-- the network of the table; or the refusal, and a network of zeros
abbrev pub Told : Outcome → Table → Type 0
Told (accepted s) r = (r.answer ≡ Read) × Holds r.network (table_net s)
Told (refused q) r = (r.answer ≡ Refused q) × AllZero r.network
