-- A network in a request: `n m k ; counts ; words`.
use Rattle.std.specs.Prelude.{ℕ, replicate, ◌==◌, cond, slice_index, Option, None, Some, is_some, unwrap_or}
use mathlib.Core.{List.List, Bool.◌&&◌}
use Rattle.std.proofs.lemmas.List.Edits.{sets}
use Rattle.drive_request.specs.{Words.first_group, Words.after_group, Numbers.numbers_of, Reading.values_of, Reading.count_of}
use Rattle.network.specs.{Handed.node_slots, Handed.word_slots, declared.Network.Network}

-- the numbers that a group is, in so many slots; those that are not given are 0
abbrev pub slots_of : ℕ → List ℕ → List ℕ
slots_of room t = sets (replicate room 0) 0 (values_of (numbers_of t))

-- how many numbers a group is, where so many slots have room for them
abbrev pub read_of : ℕ → List ℕ → Option ℕ
read_of room t = count_of room 0 (numbers_of t)

-- the network of three groups, where they are one: three sizes, and no more counts and words than there are slots
abbrev pub given_of : List ℕ → List ℕ → List ℕ → Option Network
given_of s c w =
    cond (unwrap_or (read_of 3 s) 0 == 3 && is_some (read_of node_slots c) && is_some (read_of word_slots w))
    (Some (record {
      inputs = slice_index (slots_of 3 s) 0;
      outputs = slice_index (slots_of 3 s) 1;
      divisors = slice_index (slots_of 3 s) 2;
      counts = slots_of node_slots c;
      words = slots_of word_slots w;
    }))
    None

-- the same of the first three groups of a text
abbrev pub given_in : List ℕ → Option Network
given_in t = given_of (first_group t) (first_group (after_group t)) (first_group (after_group (after_group t)))
