-- `drive::nets::read_net` meets its contract: what the three groups fill is the network. Assumes nothing.
use Rattle.std.proofs.Common.{◌≡◌, ℕ, get_or, replicate, ap, sym, ◌∙◌, Option, Some, arith, rules}
use mathlib.Core.{List.List}
use Rattle.std.proofs.lemmas.List.{ext_get_or}
use lib.ListN.{length-replicate}
use Rattle.drive_request.specs.{Words.first_group, Words.after_group, Numbers.numbers_of, Reading.count_of, Reading.Stored}
use Rattle.network.specs.{Handed.node_slots, Handed.word_slots, declared.Network.Network}
use Rattle.drive.specs.Nets.{read_of, given_of}
use Rattle.drive.proofs.nets.read_net.Goals as goal

-- how many were read into so many zeros
counted : (room : ℕ) (t : List ℕ) {r : Option ℕ} {new : List ℕ} {n : ℕ} → Stored (replicate room 0) new r (numbers_of t) → r ≡ Some n → read_of room t ≡ Some n
counted room t s e = sym (s.answer ∙ ap (λ n. count_of n 0 (numbers_of t)) (length-replicate room 0)) ∙ e

-- what was read of three groups is the network that they are
made : (h g f : List ℕ) {sizes counts words own : List ℕ} {s k m : Option ℕ} {a b d : ℕ} → Stored (replicate 3 0) sizes s (numbers_of h) →
    Stored (replicate node_slots 0) counts k (numbers_of g) → Stored (replicate word_slots 0) words m (numbers_of f) → s ≡ Some a → a ≡ 3 → k ≡ Some b → m ≡ Some d →
    own ≡ counts →
    ◌≡◌ {A = Option Network} (Some (record { inputs = get_or sizes 0 0; outputs = get_or sizes 1 0; divisors = get_or sizes 2 0; counts = own; words = words }))
    (given_of h g f)
made h g f x y z p e q r o =
    rw (counted 3 h x (p ∙ ap Some e), counted node_slots g y q, counted word_slots f z r)
    (λ i. Some (record {
      inputs = get_or (x.bytes i) 0 0;
      outputs = get_or (x.bytes i) 1 0;
      divisors = get_or (x.bytes i) 2 0;
      counts = (o ∙ y.bytes) i;
      words = z.bytes i;
    }))

pub returns : goal.returns
returns c =
    let m = c.map.ensures.items in
    let own : c.map.result ≡ c.numbers-2.new.pool =
    ext_get_or 0 _ _ (search rules) (λ i h. let k = (m.at i 0 0 (omega arith)).2 in search (rules, k)) in
    let read = made _ _ _ c.numbers.ensures.stored c.numbers-2.ensures.stored c.numbers-3.ensures.stored c.in_ok-numbers.was c.if-branch-ne3.false
    c.in_ok-numbers-2.was c.in_ok-numbers-3.was own in
    let second = c.head-2.ensures ∙ ap first_group c.tail-after.ensures in
    let third = c.head-3.ensures ∙ ap first_group (c.tail.ensures ∙ ap after_group c.tail-after.ensures) in
    read ∙ (λ i. given_of (c.head.ensures i) (second i) (third i))
