-- What a row of the table says.
use Rattle.std.specs.Prelude.{◌≡◌, [], ◌∷◌, map, length}
use Rattle.division.specs.Division.{quotient, remainder}
use Rattle.cokernel.specs.Cokernels.{cokernels}
use Rattle.factor.specs.{Form.form_of, Text.form_text}
use Rattle.network.specs.{Net.literal_count, Net.cubes_at, Handed.gives}
use Rattle.extract_laws.specs.{Divisor.own, Extract.weight}
use Rattle.extract_laws.specs.Run.{Made, run, asked_steps}
use Rattle.image_laws.specs.{Image.image_of, Reading.read_image}
use Rattle.cases.specs.Cases.{Case, has_cokernels, divides, has_text, counts, weighs, takes, ends, has_image, reads_back}

abbrev pub Says : Case → Type 0
Says (has_cokernels f l) = cokernels f ≡ l
Says (divides f d q r) = (quotient f d ≡ q) × (remainder f d ≡ r)
Says (has_text f t) = form_text (form_of f) ≡ t
Says (counts n l) = literal_count n ≡ l
Says (weighs n d w) = weight n d ≡ w
Says (takes n v d w) =
    (map (λ (s : Made). s.divisor) (run 1 n).steps ≡ d ∷ []) × (map (λ (s : Made). s.weight) (run 1 n).steps ≡ w ∷ [])
    × (cubes_at v (run 1 n).network.divisors ≡ own d)
Says (ends n k l s) = (length (run asked_steps n).steps ≡ k) × (literal_count (run asked_steps n).network ≡ l) × ((run asked_steps n).stop ≡ s)
Says (has_image n k b) = image_of (run k n).network ≡ b
Says (reads_back b n k) = read_image b ≡ gives (run k n).network
