-- What is found from the variables that a node reads, and what is answered of it. Assumes nothing.
use Prim.Native.Nat.{ℕ, ◌+◌, ◌<◌, ◌≤◌}
use mathlib.Core.{Path.◌≡◌, Path.◌∙◌, Bool.true, Bool.false, List.List, List.[]}
use native.Mathlib.Omega.{arith}
use lib.Dec.{leb}
use lib.ListN.{length, get_or, length-take, get_or-eq_default}
use Rattle.sets.specs.Lists.{keep}
use Rattle.expression.specs.Words.{cubes_of}
use Rattle.network.specs.Held.{used, net_of, rules}
use Rattle.network_nodes.{specs.Nodes.cut, proofs.Cutting.cut-length}
use Rattle.network.specs.Parts.{nodes_of, divisors_of, net_at, InLimits}
use Rattle.network.{specs.declared.Network.Network, proofs.Numbering.numbered-length, proofs.Parts.divisors-length, proofs.Parts.nodes-at}
use Rattle.network.proofs.Holding.{nodes-held}
use Rattle.network_reads.{specs.Reading.reads_of, specs.Reading.Marks, proofs.Marking.marks-none}
use Rattle.network_hangs.specs.Hangs.{reached, hangs_on, hangs_at}
use Rattle.network_hangs.specs.Parts.{Makes}
use Rattle.network_hangs.proofs.Reading.{reached-none}

found_all : (n m k : ℕ) (words counts : List ℕ) → InLimits n m k words counts → length (net_at n m k counts words).divisors ≡ k
found_all n m k words counts z = numbered-length n (divisors_of m k counts words) ∙ divisors-length counts words m k z.counted

-- the divisors among what is reached from the variables that a node reads
pub found-marks : {n m k : ℕ} {words counts : List ℕ} {i : ℕ} {direct all r : List ℕ} {f : List (List ℕ)} → InLimits n m k words counts → i < m + k
    → f ≡ get_or (cut counts (cubes_of words)) i []
    → Marks direct (reads_of f) → Makes direct all (reached k (net_at n m k counts words)) → Makes all r (keep (λ v. leb n v))
    → Marks r (hangs_on (net_at n m k counts words) (get_or (nodes_of (m + k) counts words) i []))
unfolding hangs_on
found-marks {n} {m} {k} {words} {counts} {i} {direct} {all} {r} {f} z h e p q t =
    rw (found_all n m k words counts z, nodes-at counts words (m + k) i h, ← e)
    (t.each (reached k (net_at n m k counts words) (reads_of f)) (q.each (reads_of f) p))

-- ---- the answer

module _ (n : Network) (i : ℕ) where
  pub hangs-refused : {r : List ℕ} → rules n ≡ false → r ≡ [] → Marks r (hangs_at n i)
  unfolding hangs_at
  hangs-refused h e = rw h (marks-none e)

  -- past the last node
  pub hangs-past : {r : List ℕ} → rules n ≡ true → n.outputs + n.divisors ≤ i → r ≡ [] → Marks r (hangs_at n i)
  unfolding hangs_at hangs_on reads_of
  hangs-past h k e =
      let short : length (cut (used n) (cubes_of n.words)) ≤ i = omega
      (arith, cut-length (used n) (cubes_of n.words), length-take (n.outputs + n.divisors) n.counts) in
      rw (h, nodes-held n, get_or-eq_default (cut (used n) (cubes_of n.words)) [] short, reached-none (net_of n) (length (net_of n).divisors))
      (marks-none e)

  pub hangs-found : {r : List ℕ} → rules n ≡ true → Marks r (hangs_on (net_of n) (get_or (cut (used n) (cubes_of n.words)) i [])) → Marks r (hangs_at n i)
  unfolding hangs_at
  hangs-found h p = rw (h, nodes-held n) p
