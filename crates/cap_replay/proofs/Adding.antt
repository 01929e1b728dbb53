-- The lines of a schedule that is made by rule, and what is known of its terminals.
use Rattle.std.proofs.Common.{◌≡◌, ℕ, zero, suc, ◌+◌, ◌*◌, ◌≤◌, ◌<◌, ◌%◌, Bool, true, false, List, [], ◌∷◌, ◌++◌, length, get_or, set, refl, sym, ◌∙◌, ap, subst, ⊎_elim, arith, eq-eqb, eqb-true, length-append, append-nil}
use Rattle.std.specs.Prelude.{◌==◌, if◌then◌else◌}
use Rattle.std.specs.List.{sum_by}
use Rattle.std.proofs.lemmas.Bool.{cond-true, cond-false, cases_Bool}
use Rattle.std.proofs.lemmas.List.{append_assoc, length_push}
use Rattle.std.proofs.lemmas.List.Sums.{sum_by_push}
use Rattle.std.proofs.Math.Numerals.{add-one}
use Rattle.cap_schedule.specs.declared.schedule.Order.TheVariants as T
use Rattle.cap_schedule.specs.declared.schedule.HostOrder.TheVariants as H
use Rattle.cap_schedule.specs.declared.schedule.Action.{Action}
use Rattle.cap_schedule.specs.declared.schedule.Action.TheVariants.{AtTerminal, AtHost}
use Rattle.cap_schedule.specs.declared.schedule.Line.{Line}
use Rattle.cap_schedule.specs.declared.schedule.Schedule.{Schedule}
use Rattle.cap_replay.specs.declared.generator.Tally.{Tally}
use Rattle.cap_replay.specs.Generator.{is_cancelled, is_repeated, deliveries, sales_at, sales_before, answers_before, ups, exchange, cancellation, sale_at, next_sale, sales_actions, closing_at, closing, made_actions, amount_of_sale, account_of_sale, line_of, numbered, made_host, terminals_of, made_schedule}
use Rattle.cap_replay.specs.Tallies.{Adds, tally_of, tally_at, tallies_at, tally_after}

pub length_numbered : (k : ℕ) (actions : List Action) → length (numbered k actions) ≡ length actions
length_numbered k [] = refl
length_numbered k (action ∷ actions) = ap suc (length_numbered (suc k) actions)

numbered_append : (k : ℕ) (xs ys : List Action) → numbered k (xs ++ ys) ≡ numbered k xs ++ numbered (k + length xs) ys
numbered_append k [] ys = let none : k ≡ k + 0 = omega arith in ap (λ n. numbered n ys) none
numbered_append k (x ∷ xs) ys =
    let here : suc k + length xs ≡ k + suc (length xs) = omega arith in
    ap (λ (l : List Line). line_of k x ∷ l) (numbered_append (suc k) xs ys ∙ ap (λ n. numbered (suc k) xs ++ numbered n ys) here)

-- no line, one line, some lines and then others
pub adds_none : (lines : List Line) → Adds lines lines []
adds_none lines = record { is = sym (append-nil lines) }

pub adds_one : (old new : List Line) (number : ℕ) (action : Action) → number ≡ length old + 6 → new ≡ old ++ line_of number action ∷ [] → Adds old new (action ∷ [])
adds_one old new number action same is = record { is = subst (λ n. new ≡ old ++ line_of n action ∷ []) same is }

pub adds_then : (a b c : List Line) (xs ys : List Action) → Adds a b xs → Adds b c ys → Adds a c (xs ++ ys)
adds_then a b c xs ys first next =
    let k = length a + 6 in
    let long : length b ≡ length a + length xs =
    ap (λ (l : List Line). length l) first.is ∙ (length-append a (numbered k xs) ∙ ap (λ n. length a + n) (length_numbered k xs)) in
    let here : length b + 6 ≡ k + length xs = omega (arith, long) in
    record {
      is = next.is
          ∙ (ap (λ (l : List Line). l ++ numbered (length b + 6) ys) first.is
          ∙ (ap (λ n. (a ++ numbered k xs) ++ numbered n ys) here
          ∙ (append_assoc a (numbered k xs) (numbered (k + length xs) ys)
          ∙ ap (λ l. a ++ l) (sym (numbered_append k xs ys)))));
    }

-- a message is delivered once, or twice
pub ups_once : (a b : List Line) (place message : ℕ) (again : Bool) → again ≡ false → Adds a b (AtHost (H.Up place message) ∷ []) → Adds a b (ups place message again)
ups_once a b place message again once first = subst (λ more. Adds a b (AtHost (H.Up place message) ∷ more)) (sym (cond-false again _ _ once)) first

pub ups_twice : (a b c : List Line) (place message : ℕ) (again : Bool) → again ≡ true → Adds a b (AtHost (H.Up place message) ∷ []) → Adds b c (AtHost (H.Up place message) ∷ []) → Adds a c (ups place message again)
ups_twice a b c place message again twice first next =
    subst (λ more. Adds a c (AtHost (H.Up place message) ∷ more)) (sym (cond-true again _ _ twice)) (adds_then a b c _ _ first next)

-- a sale is cancelled, or not
pub cancelled_is : (a b : List Line) (i place number : ℕ) → is_cancelled i ≡ true → Adds a b (AtTerminal place (T.Cancel number) ∷ []) → Adds a b (cancellation i place number)
cancelled_is a b i place number is first = subst (Adds a b) (sym (cond-true (is_cancelled i) _ _ is)) first

pub not_cancelled : (a : List Line) (i place number : ℕ) → is_cancelled i ≡ false → Adds a a (cancellation i place number)
not_cancelled a i place number none = subst (Adds a a) (sym (cond-false (is_cancelled i) _ _ none)) (adds_none a)

-- how much a terminal has at most
either_few : (b : Bool) (l : List ℕ) (x n : ℕ) → length l ≤ n → length (if b then l ++ x ∷ [] else l) ≤ suc n
either_few true l x n few = let one : length (l ++ x ∷ []) ≡ length l + 1 = length_push l x in let both : length (l ++ x ∷ []) ≤ suc n = omega (arith, one, few) in both
either_few false l x n few = let more : length l ≤ suc n = omega (arith, few) in more

pub few_sales : (place n : ℕ) → sales_before place n ≤ n
few_sales place zero = let none : 0 ≤ 0 = omega arith in none
few_sales place (suc n) = either_few (n % 4 == place) (sales_at place n) (n + 1) n (few_sales place n)

two_or_one : (b : Bool) → (if b then 2 else 1) ≤ 2
two_or_one true = let two : 2 ≤ 2 = omega arith in two
two_or_one false = let one : 1 ≤ 2 = omega arith in one

pub few_deliveries : (i : ℕ) → deliveries i ≤ 2
few_deliveries i = two_or_one (is_repeated i)

either_answers : (b : Bool) (l : List ℕ) (x n : ℕ) → sum_by deliveries l ≤ 2 * n → sum_by deliveries (if b then l ++ x ∷ [] else l) ≤ 2 * suc n
either_answers true l x n few =
    let one : sum_by deliveries (l ++ x ∷ []) ≡ sum_by deliveries l + deliveries x = sum_by_push deliveries l x in
    let two : deliveries x ≤ 2 = few_deliveries x in
    let all : sum_by deliveries (l ++ x ∷ []) ≤ 2 * suc n = omega (arith, one, two, few) in all
either_answers false l x n few = let more : sum_by deliveries l ≤ 2 * suc n = omega (arith, few) in more

pub few_answers : (place n : ℕ) → answers_before place n ≤ 2 * n
few_answers place zero = let none : 0 ≤ 0 = omega arith in none
few_answers place (suc n) = either_answers (n % 4 == place) (sales_at place n) (n + 1) n (few_answers place n)

-- what is known of the terminal whose turn it is
own_tally : (n p : ℕ) (d : Tally) → p < 4 → get_or (tallies_at n) p d ≡ tally_at p n
own_tally n zero d lt = refl
own_tally n (suc zero) d lt = refl
own_tally n (suc (suc zero)) d lt = refl
own_tally n (suc (suc (suc zero))) d lt = refl
own_tally n (suc (suc (suc (suc p)))) d lt = let never : ⊥ = omega (arith, lt) in absurd never

own_is : (n p : ℕ) (d : Tally) (old : List Tally) → p < 4 → old ≡ tallies_at n → get_or old p d ≡ tally_at p n
own_is n p d old lt is = ap (λ (l : List Tally). get_or l p d) is ∙ own_tally n p d lt

tally_push : (l : List ℕ) (x : ℕ) → tally_of (l ++ x ∷ []) ≡ tally_after x (tally_of l)
tally_push l x =
    ap (λ (n : ℕ). let t : Tally = record { sales = n; answers = sum_by deliveries (l ++ x ∷ []) } in t) (length_push l x)
    ∙ ap (λ (n : ℕ). let t : Tally = record { sales = length l + 1; answers = n } in t) (sum_by_push deliveries l x)

-- the sale after n others is at one terminal, and no other has it
own_more : (n p : ℕ) → n % 4 ≡ p → tally_at p (suc n) ≡ tally_after (n + 1) (tally_at p n)
own_more n p turn = ap tally_of (cond-true (n % 4 == p) (sales_at p n ++ (n + 1) ∷ []) (sales_at p n) (eq-eqb (n % 4) p turn)) ∙ tally_push (sales_at p n) (n + 1)

apart : (a b : ℕ) → (a ≡ b → ⊥) → (a == b) ≡ false
apart a b other = ⊎_elim (λ same. absurd (other (eqb-true a b same))) (λ no'. no') (cases_Bool (a == b))

other_same : (n p q : ℕ) → n % 4 ≡ p → (p ≡ q → ⊥) → tally_at q (suc n) ≡ tally_at q n
other_same n p q turn other =
    ap tally_of (cond-false (n % 4 == q) (sales_at q n ++ (n + 1) ∷ []) (sales_at q n) (apart (n % 4) q (λ same. other (sym turn ∙ same))))

tallies_same : (a b c d e f g h : Tally) → a ≡ e → b ≡ f → c ≡ g → d ≡ h → a ∷ b ∷ c ∷ d ∷ [] ≡ e ∷ f ∷ g ∷ h ∷ []
tallies_same a b c d e f g h same second third fourth = cc (same, second, third, fourth)

tallies_suc : (n p : ℕ) → n % 4 ≡ p → p < 4 → tallies_at (suc n) ≡ set (tallies_at n) p (tally_after (n + 1) (tally_at p n))
tallies_suc n zero turn lt =
    tallies_same _ _ _ _ _ _ _ _ (own_more n 0 turn) (other_same n 0 1 turn (λ e. omega (arith, e))) (other_same n 0 2 turn (λ e. omega (arith, e))) (other_same n 0 3 turn (λ e. omega (arith, e)))
tallies_suc n (suc zero) turn lt =
    tallies_same _ _ _ _ _ _ _ _ (other_same n 1 0 turn (λ e. omega (arith, e))) (own_more n 1 turn) (other_same n 1 2 turn (λ e. omega (arith, e))) (other_same n 1 3 turn (λ e. omega (arith, e)))
tallies_suc n (suc (suc zero)) turn lt =
    tallies_same _ _ _ _ _ _ _ _ (other_same n 2 0 turn (λ e. omega (arith, e))) (other_same n 2 1 turn (λ e. omega (arith, e))) (own_more n 2 turn) (other_same n 2 3 turn (λ e. omega (arith, e)))
tallies_suc n (suc (suc (suc zero))) turn lt =
    tallies_same _ _ _ _ _ _ _ _ (other_same n 3 0 turn (λ e. omega (arith, e))) (other_same n 3 1 turn (λ e. omega (arith, e))) (other_same n 3 2 turn (λ e. omega (arith, e))) (own_more n 3 turn)
tallies_suc n (suc (suc (suc (suc p)))) turn lt = let never : ⊥ = omega (arith, lt) in absurd never

-- one sale more
pub tallies_more : (n p : ℕ) (d : Tally) (old : List Tally) (now : Tally) → n % 4 ≡ p → p < 4 → old ≡ tallies_at n → now ≡ tally_after (n + 1) (get_or old p d) → set old p now ≡ tallies_at (n + 1)
tallies_more n p d old now turn lt is now_is =
    ap (λ (l : List Tally). set l p now) is
    ∙ (ap (λ (t : Tally). set (tallies_at n) p t) (now_is ∙ ap (tally_after (n + 1)) (own_is n p d old lt is))
    ∙ (sym (tallies_suc n p turn lt)
    ∙ ap tallies_at (sym (add-one n))))

pub sales_more : (n p : ℕ) (d : Tally) (a b c : List Line) (old : List Tally) → n % 4 ≡ p → p < 4 → old ≡ tallies_at n
    → Adds a b (sales_actions n) → Adds b c (sale_at (n + 1) p ((get_or old p d).sales + 1) ((get_or old p d).answers + 1)) → Adds a c (sales_actions (n + 1))
sales_more n p d a b c old turn lt is so_far next =
    let at_p : Adds b c (sale_at (n + 1) p (sales_before p n + 1) (answers_before p n + 1)) =
    subst (λ (t : Tally). Adds b c (sale_at (n + 1) p (t.sales + 1) (t.answers + 1))) (own_is n p d old lt is) next in
    let here : Adds b c (next_sale n) = subst (λ q. Adds b c (sale_at (n + 1) q (sales_before q n + 1) (answers_before q n + 1))) (sym turn) at_p in
    subst (λ m. Adds a c (sales_actions m)) (sym (add-one n)) (adds_then a b c (sales_actions n) (next_sale n) so_far here)

-- the tally of the terminal whose turn it is has room
pub room : (n p : ℕ) (d : Tally) (old : List Tally) → n ≤ 10000 → p < 4 → old ≡ tallies_at n → ((get_or old p d).sales ≤ 10000) × ((get_or old p d).answers ≤ 20000)
room n p d old few lt is =
    let mine : get_or old p d ≡ tally_at p n = own_is n p d old lt is in
    let sales : sales_before p n ≤ n = few_sales p n in
    let answers : answers_before p n ≤ 2 * n = few_answers p n in
    let sales_few : sales_before p n ≤ 10000 = omega (arith, sales, few) in
    let answers_few : answers_before p n ≤ 20000 = omega (arith, answers, few) in
    (subst (λ (t : Tally). t.sales ≤ 10000) (sym mine) sales_few, subst (λ (t : Tally). t.answers ≤ 20000) (sym mine) answers_few)

-- the lines of a sale, by its amount, its account and how often its message is delivered
pub sale_is : (a b : List Line) (i place number answer amount : ℕ) (account : List ℕ) (again : Bool) → amount ≡ amount_of_sale i → account ≡ account_of_sale i → again ≡ is_repeated i
    → Adds a b (AtTerminal place (T.Sale amount account) ∷ cancellation i place number ++ exchange place number answer again) → Adds a b (sale_at i place number answer)
sale_is a b i place number answer amount account again same_amount same_account same_again adds =
    subst (λ (x : ℕ). Adds a b (AtTerminal place (T.Sale x (account_of_sale i)) ∷ cancellation i place number ++ exchange place number answer (is_repeated i))) same_amount
    (subst (λ (l : List ℕ). Adds a b (AtTerminal place (T.Sale amount l) ∷ cancellation i place number ++ exchange place number answer (is_repeated i))) same_account
    (subst (λ (r : Bool). Adds a b (AtTerminal place (T.Sale amount account) ∷ cancellation i place number ++ exchange place number answer r)) same_again adds))

-- the closings of all terminals, by what is known of each
pub closings_are : (n : ℕ) (d : Tally) (b c : List Line) (all : List Tally) → all ≡ tallies_at n
    → Adds b c (closing_at 0 ((get_or all 0 d).sales + 1) ((get_or all 0 d).answers + 1) ++ (closing_at 1 ((get_or all 1 d).sales + 1) ((get_or all 1 d).answers + 1) ++ (closing_at 2 ((get_or all 2 d).sales + 1) ((get_or all 2 d).answers + 1) ++ closing_at 3 ((get_or all 3 d).sales + 1) ((get_or all 3 d).answers + 1))))
    → Adds b c (closing n 0 ++ (closing n 1 ++ (closing n 2 ++ closing n 3)))
closings_are n d b c all is adds =
    subst
    (λ (l : List Tally).
    Adds b c (closing_at 0 ((get_or l 0 d).sales + 1) ((get_or l 0 d).answers + 1) ++ (closing_at 1 ((get_or l 1 d).sales + 1) ((get_or l 1 d).answers + 1) ++ (closing_at 2 ((get_or l 2 d).sales + 1) ((get_or l 2 d).answers + 1) ++ closing_at 3 ((get_or l 3 d).sales + 1) ((get_or l 3 d).answers + 1)))))
    is
    adds

-- the whole schedule
pub made_is : (old new : List Line) (n : ℕ) (s : Schedule) → old ≡ [] → Adds old new (made_actions n) → s ≡ record { host = made_host; terminals = terminals_of n; lines = new } → s ≡ made_schedule n
made_is old new n s none adds is =
    let lines : new ≡ numbered 6 (made_actions n) = subst (λ (l : List Line). new ≡ l ++ numbered (length l + 6) (made_actions n)) none adds.is in
    is ∙ ap (λ (l : List Line). let made : Schedule = record { host = made_host; terminals = terminals_of n; lines = l } in made) lines
