-- Short schedules, computed.
use Rattle.std.proofs.Common.{◌≡◌, ℕ, List, [], ◌∷◌, ◌∙◌, refl, sym, ap, subst}
use Rattle.std.specs.Prelude.{codes}
use Rattle.std.specs.List.{AllByRecursion}
use Rattle.std.specs.Fmt.{digits}
use Rattle.cap_leaf.specs.Date.{DateParts}
use Rattle.cap_msgs.specs.Received.{Received}
use Rattle.cap_schedule.specs.declared.schedule.Line.{Line}
use Rattle.cap_schedule.specs.declared.schedule.Schedule.{Schedule}
use Rattle.cap_plays.specs.Plays.{Played, AreDates, least_play, first_scene, first_doubts}
use Rattle.cap_plays.specs.Report.{report, sales_text, items_text, host_numbers, sold_text, cancelled_text}
use Rattle.cap_plays.specs.Laws.{IsWhole}
use Rattle.cap_plays.specs.Worked.{sale_and_advice, cut_sale, lost_answer, two_periods, HasText, WorkedSchedules}
use Rattle.cap_plays.proofs.Singles.{plays_least, one_play}

-- a date for each line
abbrev Each : List Line → (List DateParts → Type 0) → Type 0
Each [] P = P []
Each (line ∷ lines) P = (created : DateParts) → Each lines (λ more. P (created ∷ more))

with_dates : (lines : List Line) (P : List DateParts → Type 0) → Each lines P → (dates : List DateParts) → AreDates lines dates → P dates
with_dates [] P each dates is = subst P (sym is) each
with_dates (line ∷ lines) P each dates (created, more, at, are, is) = subst P (sym is) (with_dates lines (λ l. P (created ∷ l)) (each created) more are)

-- the least play has the text, so every play has it
has_text : (s : Schedule) (text : List ℕ) → AllByRecursion (λ (line : Line). IsWhole line.prefix) s.lines → ((reads : List ℕ → Received) → Each s.lines (λ dates. report s (least_play reads dates s) ≡ text)) → HasText s text
has_text s text whole is = λ reads played does.
    let (dates, are, same) = (one_play reads s whole).1 played does in
    ap (λ (p : Played). report s p) same ∙ with_dates s.lines (λ l. report s (least_play reads l s) ≡ text) (is reads) dates are

first_text : HasText sale_and_advice (codes "3 sale 1\n4 sent 1\n5 answered 1 caaa.004\n6 acked 1\nterminal T1 sales 1 completed 1 cancelled 0 voided 0 periods 0 items 1 acked 1 set 0\nhost T1 log 1 captured 1 12.50\nverdict T1 agree\n")
unfolding digits sales_text items_text host_numbers
first_text = has_text sale_and_advice _ (tt, (tt, (tt, (tt, tt)))) (λ reads a b c d. refl)

lost_text : HasText lost_answer (codes "3 sale 1\n4 sent 1\n5 cut\n6 restarted\n7 answered 1 caaa.004\n8 acked 1\nterminal T1 sales 1 completed 1 cancelled 0 voided 0 periods 0 items 1 acked 1 set 0\nhost T1 log 1 captured 1 12.50\nverdict T1 agree\n")
unfolding digits sales_text items_text host_numbers
lost_text = has_text lost_answer _ (tt, (tt, (tt, (tt, (tt, (tt, tt)))))) (λ reads a b c d e f. refl)

closed_text : HasText two_periods (codes "3 sale 1\n4 closed 1\n5 cancelled 1\n6 closed 2\n7 sent 1\n8 answered 1 caaa.012\n9 acked 4\nterminal T1 sales 1 completed 1 cancelled 1 voided 0 periods 2 items 4 acked 4 set 0\nhost T1 log 4 captured 0 0.00\nperiod T1 1 sales 1 12.50 cancels 0 0.00\nperiod T1 2 sales 0 0.00 cancels 1 12.50\nverdict T1 agree\n")
unfolding digits sales_text items_text host_numbers sold_text cancelled_text
closed_text = has_text two_periods _ (tt, (tt, (tt, (tt, (tt, (tt, (tt, tt))))))) (λ reads a b c d e f g. refl)

cut_text : (reads : List ℕ → Received) → Each cut_sale.lines (λ dates. report cut_sale (least_play reads dates cut_sale)
    ≡ codes "3 begun 1\n4 cut\n5 restarted\n6 void 1\nterminal T1 sales 1 completed 0 cancelled 0 voided 1 periods 0 items 1 acked 0 set 0\nhost T1 log 0 captured 0 0.00\nverdict T1 behind 1\n")
unfolding digits sales_text items_text host_numbers
cut_text reads = λ a b c d. refl

pub worked_schedules : WorkedSchedules
worked_schedules = record {
  first = first_text;
  lost = lost_text;
  closed = closed_text;
  cut = λ reads dates are. (
    least_play reads dates cut_sale,
    plays_least reads cut_sale.lines dates (first_scene cut_sale) (first_doubts cut_sale) are,
    with_dates cut_sale.lines (λ l. report cut_sale (least_play reads l cut_sale)
        ≡ codes "3 begun 1\n4 cut\n5 restarted\n6 void 1\nterminal T1 sales 1 completed 0 cancelled 0 voided 1 periods 0 items 1 acked 0 set 0\nhost T1 log 0 captured 0 0.00\nverdict T1 behind 1\n") (cut_text reads) dates are,
  );
}
