-- What the calls of a host that answers stand on.
use Rattle.std.proofs.Common.{refl, sym, ◌∙◌, ap, subst, arith, inl, inr}
use Rattle.std.proofs.lemmas.Option.{none-some}
use Rattle.std.proofs.lemmas.List.{append-nil, take_all}
use Rattle.std.specs.Prelude.{◌≡◌, ◌⊎◌, ℕ, ◌≤◌, List, [], ◌++◌, length, Option, Some, None, Result, Ok, Err, IfOk, OnOk, OnErr, IsErrOf, IsTrue, Bool}
use Rattle.cap_disk.specs.Disk.{LeavesOnly}
use Rattle.cap_journal.specs.File.{HasEither, Found, NotFormatted, Damaged, entries_found}
use Rattle.cap_entries.specs.declared.host.HostEntry.{HostEntry}
use Rattle.cap_entries.specs.HostAllowed.{LegalHost}
use Rattle.cap_entries.specs.HostRecord.{host_reading}
use Rattle.cap_entries.specs.FirstNotAllowed.{first_host_not_allowed}
use Rattle.cap_entries.specs.FirstLaws.{legal_host_exactly}
use Rattle.cap_msgs.specs.declared.message.Body.{Body}
use Rattle.cap_msgs.specs.Received.{Received}
use Rattle.cap_msgs.specs.Reads.{Reads}
use Rattle.cap_host_answers.specs.Received.{answer_received}
use Rattle.cap_answering.specs.declared.fault.HostFault.{HostFault}
use Rattle.cap_answering.specs.declared.reply.Reply.{Reply}
use Rattle.cap_answering.specs.declared.reply.Reply.TheVariants.{Bytes, Silent}
use Rattle.cap_answering.specs.Answering.{HasFrontOf, FitsFrame}
use Rattle.cap_host.specs.Host.{fault_of, ending}
use Rattle.cap_host.specs.Reply.{IsReply}
use Rattle.cap_host.specs.Answering.{HostReplies, HostHas}

not_err : {T : Type 0} (value : T) (fault : HostFault) → (let r : Result T HostFault = Ok value in r ≡ Err fault) → ⊥
not_err value fault is = cc is

-- a fault of a call is that of what the ledger says of it
pub ends_as : {T : Type 0} (result : Result T HostFault) (fault : HostFault) → IsErrOf result fault → IsErrOf (ending (fault_of result)) fault
ends_as (Ok value) fault is = absurd (not_err value fault is)
ends_as (Err other) fault is = cc is

pub ends_from : {T : Type 0} (result : Result T HostFault) (fault : HostFault) → IsErrOf (ending (fault_of result)) fault → IsErrOf result fault
ends_from (Ok value) fault is = absurd (not_err tt fault is)
ends_from (Err other) fault is = cc is

pub on_ok : {T : Type 0} (result : Result T HostFault) (P : Type 0) → OnOk (ending (fault_of result)) P → OnOk result P
on_ok (Ok value) P is = is
on_ok (Err other) P is = is

pub on_ok_where : {T : Type 0} (result : Result T HostFault) (P R : Type 0) → OnOk result P → OnOk result (R → P)
on_ok_where (Ok value) P R is = λ r. is
on_ok_where (Err other) P R is = is

pub on_err : {T : Type 0} (result : Result T HostFault) (fault : HostFault) (P : Type 0) → OnErr (ending (fault_of result)) P → IsErrOf result fault → P
on_err (Ok value) fault P is e = absurd (not_err value fault e)
on_err (Err other) fault P is e = is

fits : (entries : List HostEntry) (moment : ℕ) (received : Received) (body : Option Body) (reply : Reply) → IsReply entries moment received body reply → FitsFrame reply
fits entries moment received None Silent is = tt
fits entries moment received None (Bytes text) is = absurd (cc is)
fits entries moment received (Some body) Silent is = tt
fits entries moment received (Some body) (Bytes text) is = (is.some, omega (arith, is.few))

pub replied : (entries : List HostEntry) (moment : ℕ) (bytes : List ℕ) (received : Received) (R : Type 0) (result : Result Reply HostFault) → Reads bytes received
    → IfOk result (λ reply. IsReply entries moment received (answer_received entries received).reply reply)
    → IfOk result (λ reply. (R → HostReplies entries moment bytes reply) × FitsFrame reply)
replied entries moment bytes received R (Ok reply) reads is = ((λ r. (received, reads, is)), fits entries moment received (answer_received entries received).reply reply is)
replied entries moment bytes received R (Err fault) reads is = is

pub either_front : (image : List ℕ) (list added : List HostEntry) → HostHas image list ⊎ HasEither host_reading list (list ++ added) image → HasFrontOf HostHas list added image
either_front image list added (inl is) = (0, is ∙ ap (λ l. Some l) (sym (append-nil list)))
either_front image list added (inr (inl is)) = (0, is ∙ ap (λ l. Some l) (sym (append-nil list)))
either_front image list added (inr (inr is)) = (length added, is ∙ ap (λ l. Some (list ++ l)) (sym (take_all (length added) added (omega arith))))

-- a run that leaves no other image leaves none now either
module _ {J : Type 0} (tells : J → Bool) (moment : J → ℕ) (left_since : J → ℕ → List ℕ → Type 0) (may_leave : J → List ℕ → Type 0)
    (counts_now : (journal : J) (t : ℕ) (image : List ℕ) → IsTrue (tells journal) → t ≤ moment journal → may_leave journal image → left_since journal t image) where
  pub no_other : (was old new : J) → old ≡ was → tells new ≡ tells old → (IsTrue (tells old) → LeavesOnly moment left_since old new (may_leave old))
      → IsTrue (tells was) → (image : List ℕ) → may_leave new image → may_leave was image
  no_other was old new is same run told image left =
      let told_old : IsTrue (tells old) = subst (λ j. IsTrue (tells j)) (sym is) told in
      let l = run told_old in
      subst (λ j. may_leave j image) is (l.each image (counts_now new (moment old) image (same ∙ told_old) l.later left))

-- an image with entries is formatted and not damaged
pub not_unformatted : {E A : Type 0} (found : Found E) (list : List E) → entries_found found ≡ Some list → found ≡ NotFormatted → A
not_unformatted found list has is = absurd (none-some list (sym (ap entries_found is) ∙ has))

pub not_damaged : {E A : Type 0} (found : Found E) (list : List E) (place : ℕ) → entries_found found ≡ Some list → found ≡ Damaged place → A
not_damaged found list place has is = absurd (none-some list (sym (ap entries_found is) ∙ has))

-- entries that are allowed have no first one that isn't
pub none_refused : {A : Type 0} (list : List HostEntry) (i : ℕ) → LegalHost list → first_host_not_allowed list ≡ Some i → A
none_refused list i legal is = absurd (none-some i (sym ((legal_host_exactly list).1 legal) ∙ is))
