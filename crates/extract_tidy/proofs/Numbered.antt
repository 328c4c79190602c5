-- A loop over the first nodes that are held, each with its number: what it goes through, and what a turn has. Assumes nothing.
use Rattle.std.proofs.Common.{◌≡◌, ◌∙◌, ap, ℕ, ◌<◌, List, [], length, get_or, zero-add}
use Rattle.std.specs.Iterator.{YieldsFirstBy}
use Rattle.std.specs.Iterator.Adapters.{take_source, take_count, take_steps, enumerate_source, enumerate_count, enumerate_steps}
use Rattle.std.specs.List.{enumerate_from}
use Rattle.std.proofs.lemmas.Iterator.{YieldsList}
use Rattle.std.proofs.lemmas.Iterator.Consumers.{YieldsList-at, YieldsList-from_enumerate}
use Rattle.std.proofs.lemmas.List.{get_or_default}
use Rattle.std.proofs.lemmas.List.FromFn.{length-enumerate_from, get_or-enumerate_from}
use Rattle.network_nodes.specs.declared.Nodes.{Nodes}
use Rattle.network_nodes.proofs.Chains.{left, cubes, front-list}
use Rattle.network.specs.Parts.{nodes_of}

pub numbered-list : {s : _} {t : _} {u : Nodes} {words counts : List ℕ} (e : ℕ) → enumerate_source s ≡ t → enumerate_count s ≡ 0
    → take_source t ≡ u → take_count t ≡ e → (u.words.now ≡ words) × (u.counts.now ≡ counts)
    → YieldsList (enumerate_steps (take_steps (YieldsFirstBy cubes left))) (λ p. (p.0, cubes p.1)) s (enumerate_from 0 (nodes_of e counts words))
numbered-list e d n f k h = YieldsList-from_enumerate (YieldsList-at d (front-list e f h k)) n

pub numbered-turn : (fs : List (List (List ℕ))) (k i : ℕ) (f : List (List ℕ))
    → (k < length (enumerate_from 0 fs)) × ((i, f) ≡ get_or (enumerate_from 0 fs) k (i, f)) → (k < length fs) × (i ≡ k) × (f ≡ get_or fs k [])
numbered-turn fs k i f (h, e) =
    let l : k < length fs = rw length-enumerate_from at h in
    let q = e ∙ get_or-enumerate_from 0 fs k (i, f) l in
    (l, ap (λ (p : ℕ × List (List ℕ)). p.0) q ∙ zero-add k, ap (λ (p : ℕ × List (List ℕ)). p.1) q ∙ get_or_default fs k f [] l)
