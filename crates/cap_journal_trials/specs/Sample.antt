-- The records of three entries.
use Rattle.std.specs.Prelude.{◌≡◌, ℕ, ◌≤◌, List, ◌++◌, length, take, drop, Bool, true, false, ◌==◌, Option, Some, None, IsTrue}
use Rattle.std.specs.List.{starts_with}
use Rattle.std.proofs.Common.{refl, sym, ◌∙◌, ap, lit≤}
use Rattle.std.proofs.lemmas.List.{take_at}
use Rattle.std.proofs.lemmas.Slice.Eq.{starts_is}
use Rattle.std.proofs.lemmas.Bool.Decides.{Decides-eqb}
use Rattle.std.proofs.Math.Dec.{eqb}
use Rattle.cap_journal_trials.specs.declared.sample.Sample.{Sample}
use Rattle.cap_journal_trials.specs.declared.sample.Sample.TheVariants.{Setup, Begin, Completed}
use Rattle.cap_journal_trials.specs.declared.sample.TheConstants.{SETUP, BEGIN, COMPLETED}

abbrev pub sample_bytes : Sample → List ℕ
sample_bytes Setup = SETUP
sample_bytes Begin = BEGIN
sample_bytes Completed = COMPLETED

abbrev pub first_of : Bool → Bool → Bool → Option (Sample × ℕ)
first_of true begin completed = Some (Setup, 25)
first_of false true completed = Some (Begin, 34)
first_of false false true = Some (Completed, 15)
first_of false false false = None

abbrev pub sample_reading : List ℕ → Option (Sample × ℕ)
sample_reading bytes = first_of (starts_with eqb bytes SETUP) (starts_with eqb bytes BEGIN) (starts_with eqb bytes COMPLETED)

pub sample_reads_back : (value : Sample) (rest : List ℕ) → sample_reading (sample_bytes value ++ rest) ≡ Some (value, length (sample_bytes value))
sample_reads_back Setup rest = refl
sample_reads_back Begin rest = refl
sample_reads_back Completed rest = refl

pub sample_low : (value : Sample) → 1 ≤ length (sample_bytes value)
sample_low Setup = lit≤ tt
sample_low Begin = lit≤ tt
sample_low Completed = lit≤ tt

pub sample_high : (value : Sample) → length (sample_bytes value) ≤ 65536
sample_high Setup = lit≤ tt
sample_high Begin = lit≤ tt
sample_high Completed = lit≤ tt

abbrev IsRecord : Sample → ℕ → List ℕ → Type 0
IsRecord value size bytes = IsTrue true × (size ≡ length (sample_bytes value)) × (take size bytes ≡ sample_bytes value)

front_is : (bytes front : List ℕ) → starts_with eqb bytes front ≡ true → take (length front) bytes ≡ front
front_is bytes front starts = ap (λ (l : List ℕ). take (length front) l) ((starts_is Decides-eqb bytes front (starts_with eqb bytes front) refl).0 starts) ∙ take_at front (drop (length front) bytes) (length front) refl

of_value : (found value : Sample) (n size : ℕ) (bytes : List ℕ) → (let p : Option (Sample × ℕ) = Some (found, n) in p ≡ Some (value, size)) → n ≡ length (sample_bytes found) → take n bytes ≡ sample_bytes found → IsRecord value size bytes
of_value found value n size bytes is long front =
    let p : Sample × ℕ = (found, n) in
    let q : Sample × ℕ = (value, size) in
    let same : p ≡ q = cc in
    let value_is : found ≡ value = ap (λ (r : Sample × ℕ). r.0) same in
    let size_is : n ≡ size = ap (λ (r : Sample × ℕ). r.1) same in
    (refl, sym size_is ∙ long ∙ ap (λ (v : Sample). length (sample_bytes v)) value_is, ap (λ (k : ℕ). take k bytes) (sym size_is) ∙ front ∙ ap sample_bytes value_is)

by_fronts : (value : Sample) (size : ℕ) (bytes : List ℕ) (setup begin completed : Bool) → starts_with eqb bytes SETUP ≡ setup → starts_with eqb bytes BEGIN ≡ begin → starts_with eqb bytes COMPLETED ≡ completed → first_of setup begin completed ≡ Some (value, size) → IsRecord value size bytes
by_fronts value size bytes true begin completed s b c is = of_value Setup value 25 size bytes is refl (front_is bytes SETUP s)
by_fronts value size bytes false true completed s b c is = of_value Begin value 34 size bytes is refl (front_is bytes BEGIN b)
by_fronts value size bytes false false true s b c is = of_value Completed value 15 size bytes is refl (front_is bytes COMPLETED c)
by_fronts value size bytes false false false s b c is = cc

pub sample_reads_only : (value : Sample) (size : ℕ) (bytes : List ℕ) → sample_reading bytes ≡ Some (value, size) → IsTrue true × (size ≡ length (sample_bytes value)) × (take size bytes ≡ sample_bytes value)
sample_reads_only value size bytes is = by_fronts value size bytes (starts_with eqb bytes SETUP) (starts_with eqb bytes BEGIN) (starts_with eqb bytes COMPLETED) refl refl refl is
