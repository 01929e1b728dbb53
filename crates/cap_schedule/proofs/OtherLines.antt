-- Lines, rows and fillings with another number of words or bytes.
use Rattle.std.proofs.Common.{◌≡◌, ℕ, List, [], ◌∷◌, length, Some, None, refl, ◌<◌, arith}
use Rattle.cap_entries.specs.Settings.{TerminalSettings}
use Rattle.cap_schedule.specs.SetUps.{host_line, host_more_of, terminal_line}
use Rattle.cap_schedule.specs.Actions.{action_of}
use Rattle.cap_schedule.specs.Prefixes.{digits_fill, prefix_in, prefix_len}
use Rattle.cap_schedule.specs.PublishedRows.{row_of}

pub no_host : (ws : List (List ℕ)) → length ws < 4 → host_line ws ≡ None
no_host [] n = refl
no_host (a ∷ []) n = refl
no_host (a ∷ b ∷ []) n = refl
no_host (a ∷ b ∷ c ∷ []) n = refl
no_host (a ∷ b ∷ c ∷ d ∷ more) n = absurd (omega arith)

pub no_host_more : (a id b limit : List ℕ) (ws : List (List ℕ)) → (length ws ≡ 4 → ⊥) → host_more_of a id b limit ws ≡ None
no_host_more a id b limit [] n = refl
no_host_more a id b limit (x ∷ []) n = refl
no_host_more a id b limit (x ∷ y ∷ []) n = refl
no_host_more a id b limit (x ∷ y ∷ z ∷ []) n = refl
no_host_more a id b limit (x ∷ y ∷ z ∷ v ∷ []) n = absurd (n refl)
no_host_more a id b limit (x ∷ y ∷ z ∷ v ∷ w ∷ more) n = refl

pub no_terminal : (host : List ℕ) (terminals : List TerminalSettings) (ws : List (List ℕ)) → (length ws ≡ 6 → ⊥) → terminal_line host terminals ws ≡ None
no_terminal host terminals [] n = refl
no_terminal host terminals (a ∷ []) n = refl
no_terminal host terminals (a ∷ b ∷ []) n = refl
no_terminal host terminals (a ∷ b ∷ c ∷ []) n = refl
no_terminal host terminals (a ∷ b ∷ c ∷ d ∷ []) n = refl
no_terminal host terminals (a ∷ b ∷ c ∷ d ∷ e ∷ []) n = refl
no_terminal host terminals (a ∷ b ∷ c ∷ d ∷ e ∷ f ∷ []) n = absurd (n refl)
no_terminal host terminals (a ∷ b ∷ c ∷ d ∷ e ∷ f ∷ g ∷ more) n = refl

pub no_action : (host : List ℕ) (terminals : List TerminalSettings) (ws : List (List ℕ)) → (length ws ≡ 2 → ⊥) → (length ws ≡ 3 → ⊥) → (length ws ≡ 4 → ⊥) → action_of host terminals ws ≡ None
no_action host terminals [] l m n = refl
no_action host terminals (a ∷ []) l m n = refl
no_action host terminals (a ∷ b ∷ []) l m n = absurd (l refl)
no_action host terminals (a ∷ b ∷ c ∷ []) l m n = absurd (m refl)
no_action host terminals (a ∷ b ∷ c ∷ d ∷ []) l m n = absurd (n refl)
no_action host terminals (a ∷ b ∷ c ∷ d ∷ e ∷ more) l m n = refl

pub no_row : (ws : List (List ℕ)) → (length ws ≡ 2 → ⊥) → row_of ws ≡ None
no_row [] n = refl
no_row (a ∷ []) n = refl
no_row (a ∷ b ∷ []) n = absurd (n refl)
no_row (a ∷ b ∷ c ∷ more) n = refl

pub no_digits : (word : List ℕ) → (length word ≡ 2 → ⊥) → digits_fill word ≡ None
no_digits [] n = refl
no_digits (a ∷ []) n = refl
no_digits (a ∷ b ∷ []) n = absurd (n refl)
no_digits (a ∷ b ∷ c ∷ more) n = refl

pub no_prefix : (ws : List (List ℕ)) → length ws < 3 → prefix_in ws ≡ Some None
no_prefix [] n = refl
no_prefix (a ∷ []) n = refl
no_prefix (a ∷ b ∷ []) n = refl
no_prefix (a ∷ b ∷ c ∷ more) n = absurd (omega arith)

pub no_length : (ws : List (List ℕ)) → length ws < 3 → prefix_len ws ≡ 0
no_length [] n = refl
no_length (a ∷ []) n = refl
no_length (a ∷ b ∷ []) n = refl
no_length (a ∷ b ∷ c ∷ more) n = absurd (omega arith)
