-- The law over every run: each completed sale was approved.
use Rattle.std.specs.Prelude.{◌≡◌, ◌⊎◌, ℕ, ◌≤◌, true, List, ◌∷◌, ◌++◌, Some, slice_get}
use Rattle.cap_base.specs.declared.codes.Response.TheVariants.{Appr}
use Rattle.cap_sale_msgs.specs.declared.body.SaleBody.TheVariants.{AuthAnswer}
use Rattle.cap_msgs.specs.declared.message.Body.TheVariants.{Sale as Of_sale}
use Rattle.cap_msgs.specs.declared.message.Message.{Message}
use Rattle.cap_entries.specs.Settings.{TerminalSettings, HostSettings}
use Rattle.cap_entries.specs.declared.terminal.TermEntry.{TermEntry}
use Rattle.cap_entries.specs.declared.terminal.TermEntry.TheVariants.{Completed}
use Rattle.cap_entries.specs.Entry.{amount_of, account_of}
use Rattle.cap_entries.specs.Floor.{floor}
use Rattle.cap_host_answers.specs.Answer.{is_approved}
use Rattle.cap_terminal_answers.specs.Does.{offline_code}
use Rattle.cap_world.specs.World.{World, TerminalState, Happening, first, Run, May}
use Rattle.cap_entries.specs.SetUps.{SetUpsMatch}

-- by the terminal itself, within the floor that was in force at that step
pub record ApprovedOffline (before : List TermEntry) (n : ℕ) (code : List ℕ) : Type 0 where
  pub code_is : code ≡ offline_code
  pub amount : amount_of before n ≤ floor before

-- by an answer of the host to this sale, with this code, by the host's rule for its amount and account
pub record ApprovedByHost (host : HostSettings) (answers : List Message) (before : List TermEntry) (n : ℕ) (code : List ℕ) : Type 0 where
  pub which : ℕ
  pub message : Message
  pub there : slice_get answers which ≡ Some message
  pub number : message.header.exchange ≡ n
  pub answer : message.body ≡ Of_sale (AuthAnswer Appr code)
  pub rule : is_approved host (amount_of before n) (account_of before n) ≡ true

abbrev pub EveryCompletionIsApproved : Type 0
EveryCompletionIsApproved =
    (host : HostSettings) (terminals : List TerminalSettings) (happenings : List Happening) (w : World)
    → SetUpsMatch host terminals → Run (first host terminals) happenings w
    → (place : ℕ) (s : TerminalState) → slice_get w.terminals place ≡ Some s
    → (entries : List TermEntry) → May s.settled s.tried entries
    → (before after : List TermEntry) (n : ℕ) (code : List ℕ) → entries ≡ before ++ (Completed n code ∷ after)
    → ApprovedOffline before n code ⊎ ApprovedByHost host s.answers before n code
