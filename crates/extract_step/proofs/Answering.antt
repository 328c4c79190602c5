-- What a step answers: its cases, the network handed back, and that one answer is left. Assumes nothing.
use Prim.Native.Nat.{ℕ, ◌+◌, ◌-◌, ◌*◌, ◌<◌, ◌≤◌}
use mathlib.Core.Path.{◌≡◌, refl, sym, ap, ap₂, ◌∙◌, subst}
use mathlib.Core.Bool.{Bool, true, false, cond}
use mathlib.Core.List.{List, [], ◌∷◌, ◌++◌, map}
use mathlib.Core.Option.{Option, none, some}
use native.Mathlib.Omega.{arith}
use lib.Dec.{ltb}
use lib.ListN.{length, take as front, drop, set, replicate, length-append, length-map}
use borrow.Author.Tests.{ltb-false, lt-ltb, le-ltb}
use Rattle.sets.specs.Lists.{all, total}
use Rattle.sets.proofs.Lists.{total-append, total-map}
use Rattle.expression.specs.{Expression.ordered, Expression.literals_of, Words.cubes_of, Words.Appends, Answers.capped}
use Rattle.network.specs.Net.{Net, nodes, variables, cube_count, literal_count}
use Rattle.network.specs.Held.{net_of, most_variables, most_cubes, most_literals}
use Rattle.network.specs.Handed.{flat, cube_slots, Shaped, LaidNodes, Holds}
use Rattle.network.specs.Parts.{nodes_of, held_in, net_at, Limited}
use Rattle.network.{specs.declared.Network.Network, proofs.Laying.laid_next, proofs.Laying.laid-holds, proofs.Parts.nodes-length}
use Rattle.network.proofs.Holding.{nodes-held, outputs-held, divisors-held}
use Rattle.network_nodes.proofs.Cutting.{cut-total}
use Rattle.network.proofs.Handing.{Typed, cut-flat, holds-one, blank-one}
use Rattle.extract_laws.specs.Divisor.{own, rewrite}
use Rattle.extract_laws.specs.Divisor as divisor
use Rattle.extract_laws.specs.Extract.{redo, next_free, step}
use Rattle.extract_laws.specs.Run.{Move, finished, stuck, makes, room_for, done, asked, numbers, rows}
use Rattle.extract_laws.proofs.Making.{next-free, step-nodes}
use Rattle.extract_tidy.{specs.Tidy.arranged, proofs.Arranged.arranged-parts, proofs.Arranged.arranged-sized}
use Rattle.extract_tidy.proofs.Laid.{limited-room, nodes-few}
use Rattle.extract_divisor.specs.{Divisor.divisor_of, declared.Divisor.Divisor}
use Rattle.extract_step.specs.Replace.{allowed, outcome_of, Zeros, Stepped}
use Rattle.extract_step.specs.{Parts.SourceNodes, Parts.Ready, declared.Next.Next}
use Rattle.extract_step.proofs.Becoming.{rewrite-length}

-- ---- the network of a step, from the nodes laid

-- a count that is cut off passes the limit as it would have
capped-limit : {x : ℕ} (t : ℕ) → x ≡ capped t → (most_literals < x → most_literals < t) × (x ≤ most_literals → x ≡ t)
capped-limit {x} t = go (ltb t 18446744073709551616) refl
  where
    go : (b : Bool) → ltb t 18446744073709551616 ≡ b → x ≡ cond b t 18446744073709551615 → (most_literals < x → most_literals < t) × (x ≤ most_literals → x ≡ t)
    go true e q = (λ h. omega arith, λ h. q)
    go false e q = (λ h. omega (arith, ltb-false t 18446744073709551616 e), λ h. absurd (omega arith))

module _ {n m k : ℕ} {words counts : List ℕ} {d : Divisor} (s : Ready n m k words counts d) where
  abbrev net : Net
  net = net_at n m k counts words

  abbrev pub after : Net
  after = step net (divisor_of d)

  -- the nodes as the code lays them
  abbrev pub rewritten : List (List (List ℕ))
  rewritten = map (rewrite (2 * (n + k)) (divisor_of d)) (nodes_of (m + k) counts words)

  few : m + k ≤ length counts
  few = s.source.room.counted

  numbered : variables net ≡ n + k
  numbered = ap (n +◌) (divisors-held (held_in n m k counts words) few)

  -- the new node's number
  pub next-number : next_free net ≡ n + k
  next-number = next-free net ∙ numbered

  -- and the divisor's own
  laid-nodes : rewritten ++ (own (divisor_of d) ∷ []) ≡ nodes after
  laid-nodes =
      sym (step-nodes net (divisor_of d) ∙ ap₂ (λ (v : ℕ) (fs : List (List (List ℕ))). map (rewrite (2 * v) (divisor_of d)) fs ++ (own (divisor_of d) ∷ []))
      next-number (nodes-held (held_in n m k counts words)))

  module _ {ws sizes : List ℕ} {t : ℕ} where
    pub laid-as : {x : ℕ} → x ≡ 2 * (n + k) → LaidNodes ws sizes t (map (rewrite x (divisor_of d)) (nodes_of (m + k) counts words)) → LaidNodes ws sizes t rewritten
    laid-as e l = rw e at l

    -- no more cubes than there are places
    pub laid-few : LaidNodes ws sizes t rewritten → t ≤ cube_slots
    laid-few l = omega (arith, l.place, nodes-few (rewrite (2 * (n + k)) (divisor_of d)) (rewrite-length (2 * (n + k)) (divisor_of d)) s.source.room)

    pub laid-count : LaidNodes ws sizes t rewritten → cube_count after ≡ t + length (own (divisor_of d))
    laid-count l = omega (arith, ap (total length) laid-nodes, total-append length rewritten (own (divisor_of d) ∷ []), l.place)

    -- the literals in the words are those of the network
    pub laid-literals : {f : List (List ℕ)} → LaidNodes ws sizes t (nodes after) → f ≡ front (t - 0) (drop 0 (cubes_of ws)) → literals_of f ≡ literal_count after
    laid-literals l e =
        let k : t - 0 ≡ total (λ c. c) (map length (nodes after)) = omega (arith, l.place, total-map (λ c. c) length (nodes after)) in
        ap literals_of e ∙ ap₂ (λ (k : ℕ) (g : List (List ℕ)). literals_of (front k g)) k l.cubes
        ∙ sym (cut-total length (map length (nodes after)) (flat (nodes after) ++ replicate (cube_slots - t) []))
        ∙ ap (total literals_of) (cut-flat (nodes after) (replicate (cube_slots - t) []))

    -- the divisor's own node after the others
    pub step-laid : {new : List ℕ} {u : ℕ} → LaidNodes ws sizes t rewritten → Appends ws new t (own (divisor_of d)) u
        → LaidNodes new (set sizes (m + k) (u - t)) u (nodes after)
    step-laid {new} {u} l o =
        let e : t + (u - t) ≡ u = omega (arith, o.next) in
        let i : length rewritten ≡ m + k = length-map (nodes_of (m + k) counts words) _ ∙ nodes-length counts words (m + k) few in
        subst (LaidNodes new (set sizes (m + k) (u - t)) u) laid-nodes
        (subst (λ z. LaidNodes new (set sizes (m + k) (u - t)) z (rewritten ++ (own (divisor_of d) ∷ []))) e
        (laid_next l (sym i) s.source.free (omega (arith, o.next)) o.placed))

    pub step-held : LaidNodes ws sizes t (nodes after) → Holds (held_in n m (k + 1) sizes ws) after
    step-held l =
        laid-holds l after refl refl (sym (length-map net.outputs _ ∙ outputs-held (held_in n m k counts words) few))
        (omega (
          arith,
          length-append (map (redo (2 * next_free net) (divisor_of d)) net.divisors) (record { number = next_free net; cubes = own (divisor_of d) } ∷ []),
          length-map net.divisors (redo (2 * next_free net) (divisor_of d)),
          divisors-held (held_in n m k counts words) few,
        ))

  room_by : {b : Bool} → ltb most_cubes (cube_count after) ≡ b → room_for net (divisor_of d) ≡ cond b (stuck rows) (makes (divisor_of d))
  unfolding room_for
  room_by e = rw (ap (λ (v : ℕ). ltb v most_variables) numbered ∙ lt-ltb (n + k) most_variables s.number, e)

  pub room-rows : most_cubes < cube_count after → allowed net (room_for net (divisor_of d)) ≡ some (stuck rows)
  room-rows h = ap (allowed net) (room_by (lt-ltb most_cubes _ h))

  -- and the literals, as they were counted
  module _ (h : cube_count after ≤ most_cubes) {x : ℕ} (e : x ≡ capped (literal_count after)) where
    pub room-over : most_literals < x → allowed net (room_for net (divisor_of d)) ≡ none
    room-over l = rw (room_by (le-ltb most_cubes _ h), lt-ltb most_literals _ ((capped-limit _ e).0 l))

    pub room-literals : x ≤ most_literals → x ≡ literal_count after
    room-literals l = (capped-limit _ e).1 l

    pub room-made : x ≤ most_literals → allowed net (room_for net (divisor_of d)) ≡ some (makes (divisor_of d))
    room-made l = rw (room_by (le-ltb most_cubes _ h), le-ltb most_literals (literal_count after) (omega (arith, room-literals l)))

-- ---- the cases of an answer

module _ (n : Network) (shape : Shaped n) (a : arranged n ≡ true) where
  within : Limited n
  within = arranged-sized n a shape

  pub arranged-source : n.inputs + n.divisors < most_variables → SourceNodes n.words n.counts (n.outputs + n.divisors)
  arranged-source h = record {
    room = limited-room n within;
    free = omega (arith, within.narrow);
    order = ap (all ordered) (sym (nodes-held n)) ∙ (arranged-parts n a).1;
  }

  pub arranged-variables : variables (net_of n) ≡ n.inputs + n.divisors
  arranged-variables = ap (n.inputs +◌) (divisors-held n within.counted)

  pub room-full : (d : divisor.Divisor) → most_variables ≤ n.inputs + n.divisors → room_for (net_of n) d ≡ stuck numbers
  unfolding room_for
  room-full d h = rw (ap (λ (v : ℕ). ltb v most_variables) arranged-variables ∙ le-ltb (n.inputs + n.divisors) most_variables h)

-- ---- one answer

-- two answers to one step are the same, where their words are words
module _ (n : Network) (d : Divisor) (r t : Next) (x : Typed r.network) (y : Typed t.network) where
  pub stepped-one : Stepped n (outcome_of n d) r → Stepped n (outcome_of n d) t → r ≡ t
  stepped-one = go (outcome_of n d)
    where
      join : r.outcome ≡ t.outcome → r.network ≡ t.network → r.number.0 ≡ t.number.0 → r.literals ≡ t.literals → r ≡ t
      join p q u v = λ i. record { outcome = p i; network = q i; number = record { 0 = u i }; literals = v i }

      unmade : r.outcome ≡ t.outcome → Zeros r → Zeros t → r ≡ t
      unmade p h k = join p (blank-one r.network t.network h.blank k.blank) (h.number ∙ sym k.number) (h.literals ∙ sym k.literals)

      go : (o : Option Move) → Stepped n o r → Stepped n o t → r ≡ t
      go (some (makes e)) (p, h) (q, k) =
          join (p ∙ sym q) (holds-one r.network t.network (step (net_of n) e) x y h.held k.held)
          (h.number ∙ sym k.number) (h.literals ∙ sym k.literals)
      go (some (stuck numbers)) (p, h) (q, k) = unmade (p ∙ sym q) h k
      go (some (stuck rows)) (p, h) (q, k) = unmade (p ∙ sym q) h k
      go (some (stuck done)) h k = absurd h
      go (some (stuck asked)) h k = absurd h
      go (some finished) h k = absurd h
      go none (p, h) (q, k) = unmade (p ∙ sym q) h k
