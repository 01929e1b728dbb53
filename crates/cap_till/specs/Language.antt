-- The lines of a till.
use Rattle.std.specs.Prelude.{ℕ, if◌then◌else◌, List, [], ◌∷◌, Option, Some, None, codes}
use Rattle.std.specs.Str.{bytes_eq}
use Rattle.cap_base.specs.Text.{account_of}
use Rattle.cap_base.specs.Number.{number_of}
use Rattle.cap_base.specs.Amount.{amount_of}
use Rattle.cap_schedule.specs.Language.{words_of}
use Rattle.cap_till.specs.declared.line.TillLine.{TillLine}
use Rattle.cap_till.specs.declared.line.TillLine.TheVariants as L

-- `close`, `flush`, `diagnose`, `config`, `plan`, `status`
abbrev pub bare_line : List ℕ → Option TillLine
bare_line verb =
    if bytes_eq verb (codes "close") then Some L.Close
    else (if bytes_eq verb (codes "flush") then Some L.Flush
    else (if bytes_eq verb (codes "diagnose") then Some L.Diagnose
    else (if bytes_eq verb (codes "config") then Some L.Config
    else (if bytes_eq verb (codes "plan") then Some L.Plan
    else (if bytes_eq verb (codes "status") then Some L.Status
    else None)))))

-- `void N`, `cancel N`, `askcancel N`
abbrev pub numbered_line : List ℕ → Option ℕ → Option TillLine
numbered_line verb None = None
numbered_line verb (Some n) =
    if bytes_eq verb (codes "void") then Some (L.Void n)
    else (if bytes_eq verb (codes "cancel") then Some (L.Cancel n)
    else (if bytes_eq verb (codes "askcancel") then Some (L.AskCancel n)
    else None))

-- `sale AMOUNT ACCOUNT`
abbrev pub paid_line : List ℕ → Option ℕ → Option (List ℕ) → Option TillLine
paid_line verb None account = None
paid_line verb (Some amount) None = None
paid_line verb (Some amount) (Some account) = if bytes_eq verb (codes "sale") then Some (L.Sale amount account) else None

-- the line that these words are
abbrev pub line_of_words : List (List ℕ) → Option TillLine
line_of_words (verb ∷ []) = bare_line verb
line_of_words (verb ∷ number ∷ []) = numbered_line verb (number_of 10 number)
line_of_words (verb ∷ amount ∷ account ∷ []) = paid_line verb (amount_of amount) (account_of account)
line_of_words _ = None

-- the line that these bytes are; None: it isn't in the language
abbrev pub till_line : List ℕ → Option TillLine
till_line bytes = line_of_words (words_of bytes)
