-- What the host answers keeps each log a front of its terminal's items.
use Rattle.std.proofs.Common.{◌≡◌, ℕ, zero, suc, ◌+◌, ◌≤◌, true, List, [], ◌∷◌, ◌++◌, length, take, drop, Some, sym, ◌∙◌, ap, subst, append_assoc, append-nil, length-take, arith, map, Option, None, refl, ◌-◌, length-append, drop_at, take_at, eq-eqb, ne_eqb, leb-true, leb-false}
use Rattle.std.specs.Prelude.{nat_le, ◌==◌}
use Rattle.std.proofs.lemmas.Bool.{cond_both, cond-true, cond-false, and_from}
use Rattle.std.proofs.lemmas.List.{drop_all}
use Rattle.cap_base.specs.declared.item.Item.{Item}
use Rattle.cap_base.specs.declared.item.Item.TheVariants.{Sale, Void, Cancel, Close}
use Rattle.cap_base.specs.Captured.{totals}
use Rattle.cap_base.specs.Fits.{fits, all_fit}
use Rattle.cap_mgmt_msgs.specs.declared.body.MgmtBody.{MgmtBody}
use Rattle.cap_mgmt_msgs.specs.declared.body.MgmtBody.TheVariants.{Status, Plan, Part as Part_body, ManagementRejection}
use Rattle.cap_msgs.specs.declared.message.Body.{Body}
use Rattle.cap_msgs.specs.declared.message.Message.{Message}
use Rattle.cap_msgs.specs.Report.{Report, Asks_sale, Asks_cancel, Asks_state, Asks_data, Advice, Many, From_host, Unanswered, report_of}
use Rattle.cap_msgs.specs.Reply.{reply_of, reply_item}
use Rattle.cap_entries.specs.Settings.{HostSettings}
use Rattle.cap_entries.specs.declared.host.HostEntry.{HostEntry}
use Rattle.cap_entries.specs.declared.host.HostEntry.TheVariants.{Took}
use Rattle.cap_entries.specs.Log.{log, published, setup_of}
use Rattle.cap_entries.specs.Fronts.{IsPrefixOf, prefix_refl}
use Rattle.cap_manager.specs.Manager.{answer_status}
use Rattle.cap_host_answers.specs.Answer.{Answered, is_approved, answer_request, answer_of_item, item_at, same_item, is_unexpected, answer_advice, agree_so_far, fitting, fresh_items, taken_items, answer_batch, answer_data, answer_report, answer_of}
use Rattle.cap_host_answers.specs.StaysLegal.{fitting_fits}
use Rattle.cap_world.proofs.Sound.{StandsAt, ReportOk, SentOk}

-- two splits of a list at the same place
pub same_fronts : (xs ys us vs : List Item) → xs ++ us ≡ ys ++ vs → length xs ≡ length ys → xs ≡ ys
same_fronts xs ys us vs e h = sym (take_at xs us (length xs) refl) ∙ (ap (take (length xs)) e ∙ take_at ys vs (length xs) (sym h))

pub drop-append : {X : Type 0} (n : ℕ) (xs ys : List X) → drop n (xs ++ ys) ≡ drop n xs ++ drop (n - length xs) ys
drop-append n [] ys =
    let a : drop n [] ≡ [] = drop_all n [] (omega arith) in
    let b : n - 0 ≡ n = omega arith in
    ap (λ k. drop k ys) (sym b) ∙ ap (λ l. l ++ drop (n - 0) ys) (sym a)
drop-append zero (x ∷ xs) ys =
    let b : 0 - (length xs + 1) ≡ 0 = omega arith in
    let c : length (x ∷ xs) ≡ length xs + 1 = omega arith in
    ap (λ k. (x ∷ xs) ++ drop k ys) (sym b ∙ ap (λ k. 0 - k) (sym c))
drop-append (suc n) (x ∷ xs) ys =
    let b : n - length xs ≡ suc n - length (x ∷ xs) = omega arith in
    drop-append n xs ys ∙ ap (λ k. drop n xs ++ drop k ys) b

-- what the log takes of a batch
pub fitting_front : (log items : List Item) → IsPrefixOf (fitting log items) items
fitting_front log [] = prefix_refl []
fitting_front log (item ∷ items) =
    let rest = fitting_front (log ++ item ∷ []) items in
    cond_both (fits log item) _ _ (λ l. IsPrefixOf l (item ∷ items)) (λ _. (rest.0, ap (λ l. item ∷ l) rest.1)) (λ _. (item ∷ items, refl))

-- entries of one terminal, in the log of each
pub log-took : (place : ℕ) (items : List Item) → log (map (Took place) items) place ≡ items
log-took place [] = refl
log-took place (item ∷ items) = rw (cond-true (place == place) (item ∷ []) [] (eq-eqb place place refl)) (ap (λ l. item ∷ l) (log-took place items))

pub log-took_other : (place other : ℕ) → (other ≡ place → ⊥) → (items : List Item) → log (map (Took place) items) other ≡ []
log-took_other place other ne [] = refl
log-took_other place other ne (item ∷ items) = rw (cond-false (place == other) (item ∷ []) [] (ne_eqb place other (λ e. ne (sym e)))) (log-took_other place other ne items)

-- a reply acknowledges no more than n
abbrev pub ReplyOk : ℕ → ℕ → Option Body → Type 0
ReplyOk n number None = Unit {0}
ReplyOk n number (Some body) = reply_item number (reply_of body) ≤ n

-- what an answer adds keeps the log a front of the terminal's items, and what it acknowledges is then there
pub record AnswersSoundly (place : ℕ) (all own : List Item) (number : ℕ) (answered : Answered) : Type 0 where
  pub new : List Item
  pub added : answered.added ≡ map (Took place) new
  pub front : IsPrefixOf (own ++ new) all
  pub fit : all_fit own new ≡ true
  pub reply : ReplyOk (length (own ++ new)) number answered.reply

-- where nothing is added
adds_nothing : (place : ℕ) (all own : List Item) (number : ℕ) (answered : Answered) → IsPrefixOf own all → answered.added ≡ [] → ReplyOk (length own) number answered.reply → AnswersSoundly place all own number answered
adds_nothing place all own number answered p e r =
    record { new = []; added = e; front = rw append-nil p; fit = refl; reply = rw append-nil r }

-- no number is below 0
nothing : (n : ℕ) → 0 ≤ n
nothing n = omega arith

item_answer_ok : (n number : ℕ) (own : List Item) (item : Item) → number ≤ n → ReplyOk n number (Some (answer_of_item own item))
item_answer_ok n number own (Sale k amount account code) h = h
item_answer_ok n number own (Void k) h = h
item_answer_ok n number own (Cancel k amount) h = h
item_answer_ok n number own (Close p totals) h = h

-- the log and what stands behind a place in it
pub after_front : (all own : List Item) (x : ℕ) (items : List Item) → (p : IsPrefixOf own all) → (s : StandsAt all (length own) x items) → p.0 ≡ drop ((length own + 1) - x) items ++ drop ((length own - length s.front) - length items) s.rest
after_front all own x items p s =
    let k : length own - length s.front ≡ (length own + 1) - x = omega (arith, s.number, s.within) in
    let none : drop (length own) s.front ≡ [] = drop_all (length own) s.front (omega (arith, s.number, s.within)) in
    sym (drop_at own p.0 (length own) refl)
    ∙ (ap (drop (length own)) (p.1 ∙ s.split)
    ∙ (drop-append (length own) s.front (items ++ s.rest)
    ∙ (ap (λ l. l ++ drop (length own - length s.front) (items ++ s.rest)) none
    ∙ (drop-append (length own - length s.front) items s.rest
    ∙ ap (λ n. drop n items ++ drop ((length own - length s.front) - length items) s.rest) k))))

taken_front : (all own : List Item) (x : ℕ) (items : List Item) → IsPrefixOf own all → StandsAt all (length own) x items → IsPrefixOf (own ++ taken_items own x items) all
taken_front all own x items p s =
    let fitted = fitting_front own (fresh_items own x items) in
    let rest = drop ((length own - length s.front) - length items) s.rest in (
      fitted.0 ++ rest,
      append_assoc own (taken_items own x items) (fitted.0 ++ rest)
          ∙ (ap (λ l. own ++ l) (sym (append_assoc (taken_items own x items) fitted.0 rest) ∙ (ap (λ l. l ++ rest) fitted.1 ∙ sym (after_front all own x items p s)))
          ∙ p.1),
    )

advice_sound : (place : ℕ) (all own : List Item) (m : ℕ) (item : Item) → IsPrefixOf own all → StandsAt all (length own) m (item ∷ []) → AnswersSoundly place all own m (answer_advice place own m item)
advice_sound place all own m item p s =
    let P : Answered → Type 0 = AnswersSoundly place all own m in
    cond_both (is_unexpected own m) _ _ P (λ _. adds_nothing place all own m _ p refl (nothing _))
    (λ _. cond_both (nat_le m (length own)) _ _ P
    (λ le. cond_both (same_item (item_at own m) item) _ _ P
    (λ _. adds_nothing place all own m _ p refl (item_answer_ok (length own) m own item (leb-true m (length own) le)))
    (λ _. adds_nothing place all own m _ p refl (nothing _)))
    (λ above. cond_both (fits own item) _ _ P
    (λ fit. let same : (length own + 1) - m ≡ 0 = omega (arith, s.within, leb-false m (length own) above) in
    let F : ℕ → Type 0 = λ k. p.0 ≡ drop k (item ∷ []) ++ drop ((length own - length s.front) - length (item ∷ [])) s.rest in
    let e = subst F same (after_front all own m (item ∷ []) p s) in
    record {
      new = item ∷ [];
      added = refl;
      front = (drop ((length own - length s.front) - length (item ∷ [])) s.rest, append_assoc own (item ∷ []) _ ∙ (ap (λ l. own ++ l) (sym e) ∙ p.1));
      fit = and_from _ _ fit refl;
      reply = item_answer_ok (length (own ++ item ∷ [])) m (own ++ item ∷ []) item (omega (arith, s.within, length-append own (item ∷ [])));
    })
    (λ _. adds_nothing place all own m _ p refl (nothing _))))

batch_sound : (place : ℕ) (all own : List Item) (x : ℕ) (items : List Item) → IsPrefixOf own all → StandsAt all (length own) x items → AnswersSoundly place all own x (answer_batch place own x items)
batch_sound place all own x items p s =
    let P : Answered → Type 0 = AnswersSoundly place all own x in
    cond_both (is_unexpected own x) _ _ P (λ _. adds_nothing place all own x _ p refl (nothing _))
    (λ _. cond_both (agree_so_far (drop (x - 1) own) items) _ _ P
    (λ _. record {
      new = taken_items own x items;
      added = refl;
      front = taken_front all own x items p s;
      fit = fitting_fits own (fresh_items own x items);
      reply = omega (arith, s.within, length-append own (taken_items own x items), length-take ((length own + 1) - x) items);
    })
    (λ _. adds_nothing place all own x _ p refl (nothing _)))

request_quiet : (place : ℕ) (all own : List Item) (number : ℕ) (settings : HostSettings) (amount : ℕ) (account : List ℕ) → IsPrefixOf own all → AnswersSoundly place all own number (answer_request settings number amount account)
request_quiet place all own number settings amount account p =
    cond_both (is_approved settings amount account) _ _ (AnswersSoundly place all own number)
    (λ _. adds_nothing place all own number _ p refl (nothing _)) (λ _. adds_nothing place all own number _ p refl (nothing _))

data_quiet : (place : ℕ) (all own : List Item) (number : ℕ) (given : Option MgmtBody) → IsPrefixOf own all → AnswersSoundly place all own number (answer_data given)
data_quiet place all own number None p = adds_nothing place all own number _ p refl (nothing _)
data_quiet place all own number (Some (Status wanted in_force staged parts)) p = adds_nothing place all own number _ p refl (nothing _)
data_quiet place all own number (Some (Plan actions)) p = adds_nothing place all own number _ p refl (nothing _)
data_quiet place all own number (Some (Part_body part)) p = adds_nothing place all own number _ p refl (nothing _)
data_quiet place all own number (Some (ManagementRejection refused)) p = adds_nothing place all own number _ p refl (nothing _)

report_sound : (entries : List HostEntry) (place : ℕ) (all : List Item) (number : ℕ) (report : Report) → IsPrefixOf (log entries place) all → ReportOk all (length (log entries place)) number report → AnswersSoundly place all (log entries place) number (answer_report entries place number report)
report_sound entries place all number (Asks_sale amount account) p s = request_quiet place all _ number (setup_of entries) amount account p
report_sound entries place all number (Asks_cancel amount) p s = adds_nothing place all _ number _ p refl (nothing _)
report_sound entries place all number Asks_state p s = adds_nothing place all _ number _ p refl (nothing _)
report_sound entries place all number (Asks_data wanted in_force staged parts) p s = data_quiet place all _ number (answer_status (published entries) (setup_of entries).start (setup_of entries).poll wanted in_force staged parts) p
report_sound entries place all number (Advice item) p s = advice_sound place all _ number item p s
report_sound entries place all number (Many items) p s = batch_sound place all _ number items p s
report_sound entries place all number From_host p s = absurd s
report_sound entries place all number Unanswered p s = absurd s

pub answer_sound : (entries : List HostEntry) (place : ℕ) (all : List Item) (message : Message) → IsPrefixOf (log entries place) all → SentOk all (length (log entries place)) message → AnswersSoundly place all (log entries place) message.header.exchange (answer_of entries place message.header.exchange message.body)
answer_sound entries place all message p s = report_sound entries place all message.header.exchange (report_of message.body) p s
