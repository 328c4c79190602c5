-- A loop over some nodes, each with its number: what it goes through, and what a turn has. Assumes nothing.
use Rattle.std.proofs.Common.{◌≡◌, ◌∙◌, ap, ℕ, ◌<◌, List, [], length, get_or, zero-add}
use Rattle.std.specs.Iterator.{YieldsFirstBy}
use Rattle.std.specs.Iterator.Adapters.{skip_source, skip_count, skip_steps, take_source, take_count, take_steps, enumerate_source, enumerate_count, enumerate_steps}
use Rattle.std.specs.List.{enumerate_from}
use Rattle.std.proofs.lemmas.Iterator.{YieldsList, YieldsList-from_take}
use Rattle.std.proofs.lemmas.Iterator.Adapters.{YieldsList-from_skip}
use Rattle.std.proofs.lemmas.Iterator.Consumers.{YieldsList-at, YieldsList-from_enumerate}
use Rattle.std.proofs.lemmas.List.{get_or_default}
use Rattle.std.proofs.lemmas.List.FromFn.{length-enumerate_from, get_or-enumerate_from}
use Rattle.network_nodes.specs.declared.Nodes.{Nodes}
use Rattle.network_nodes.proofs.Chains.{left, cubes, nodes-list}
use Rattle.blif_write.specs.Parts.{nodes_at}

pub numbered-list : {s : _} {t : _} {r : _} {u : Nodes} {words counts : List ℕ} (a n : ℕ) → enumerate_source s ≡ t → enumerate_count s ≡ 0
    → take_source t ≡ r → take_count t ≡ n → skip_source r ≡ u → skip_count r ≡ a → (u.words.now ≡ words) × (u.counts.now ≡ counts)
    → YieldsList (enumerate_steps (take_steps (skip_steps (YieldsFirstBy cubes left)))) (λ p. (p.0, cubes p.1)) s
    (enumerate_from 0 (nodes_at a n words counts))
numbered-list a n d z e k f l h =
    YieldsList-from_enumerate (YieldsList-at d (YieldsList-from_take n (YieldsList-at e (YieldsList-from_skip a (YieldsList-at f (nodes-list h)) l)) k)) z

pub numbered-turn : (fs : List (List (List ℕ))) (k i : ℕ) (f : List (List ℕ))
    → (k < length (enumerate_from 0 fs)) × ((i, f) ≡ get_or (enumerate_from 0 fs) k (i, f)) → (k < length fs) × (i ≡ k) × (f ≡ get_or fs k [])
numbered-turn fs k i f (h, e) =
    let l : k < length fs = rw length-enumerate_from at h in
    let q = e ∙ get_or-enumerate_from 0 fs k (i, f) l in
    (l, ap (λ (p : ℕ × List (List ℕ)). p.0) q ∙ zero-add k, ap (λ (p : ℕ × List (List ℕ)). p.1) q ∙ get_or_default fs k f [] l)
