-- A loop over the cubes of an expression, each with its number: what it goes through, and what a turn has. Assumes nothing.
use Rattle.std.proofs.Common.{◌≡◌, ◌∙◌, ap, ℕ, ◌<◌, List, [], length, get_or, zero-add}
use Rattle.std.specs.Iterator.{YieldsFirstBy}
use Rattle.std.specs.Iterator.Adapters.{enumerate_source, enumerate_count, enumerate_steps}
use Rattle.std.specs.List.{enumerate_from}
use Rattle.std.proofs.lemmas.Iterator.{YieldsList}
use Rattle.std.proofs.lemmas.Iterator.Consumers.{YieldsList-at, YieldsList-from_enumerate}
use Rattle.std.proofs.lemmas.List.{get_or_default}
use Rattle.std.proofs.lemmas.List.FromFn.{length-enumerate_from, get_or-enumerate_from}
use Rattle.cube.specs.Cube.{lits}
use Rattle.expression.{specs.Words.cubes_of, specs.declared.Cubes.Cubes, proofs.Chains.left, proofs.Chains.each-list}

pub numbered-list : {s : _} {t : Cubes} {words : List ℕ} → enumerate_source s ≡ t → enumerate_count s ≡ 0 → t.words.now ≡ words
    → YieldsList (enumerate_steps (YieldsFirstBy lits left)) (λ p. (p.0, lits p.1)) s (enumerate_from 0 (cubes_of words))
numbered-list d n h = YieldsList-from_enumerate (YieldsList-at d (each-list h)) n

pub numbered-turn : (fs : List (List ℕ)) (k i : ℕ) (f : List ℕ)
    → (k < length (enumerate_from 0 fs)) × ((i, f) ≡ get_or (enumerate_from 0 fs) k (i, f)) → (k < length fs) × (i ≡ k) × (f ≡ get_or fs k [])
numbered-turn fs k i f (h, e) =
    let l : k < length fs = rw length-enumerate_from at h in
    let q = e ∙ get_or-enumerate_from 0 fs k (i, f) l in
    (l, ap (λ (p : ℕ × List ℕ). p.0) q ∙ zero-add k, ap (λ (p : ℕ × List ℕ). p.1) q ∙ get_or_default fs k f [] l)
