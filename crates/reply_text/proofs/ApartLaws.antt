-- What replies are told apart by: where each part of a text ends, and what it stands for.
use Rattle.std.proofs.Common.{◌≡◌, ℕ, suc, ◌<◌, Bool, true, false, eqb, List, [], ◌∷◌, ◌++◌, length, get_or, ℤ, pos, negsuc, refl, sym, ap, subst, ◌∙◌, arith, append_assoc}
use Rattle.std.specs.Prelude.{◌||◌, ◌&&◌, ◌==◌, ◌^◌, if◌then◌else◌, codes}
use Rattle.std.specs.Char.{digit_value, is_ascii_digit, is_ascii_uppercase}
use Rattle.std.specs.Fmt.{decimal, signed_decimal}
use Rattle.std.specs.List.{AllByRecursion, flat_map, list_all}
use Rattle.std.specs.Str.{bytes_eq}
use Rattle.std.specs.Str.Parse.{AllDigits}
use Rattle.std.proofs.lemmas.Bool.{eqb-true}
use Rattle.std.proofs.lemmas.Bool.Decides.{nat_tests}
use Rattle.std.proofs.lemmas.Fmt.{decimal_injective, decimal_is_IsNumeral}
use Rattle.std.proofs.lemmas.List.{append_cancel_left, append_cancel_right}
use Rattle.std.proofs.lemmas.List.Folds.{list_all-append}
use Rattle.std.proofs.lemmas.Str.Parse.{digit_from_value}
use Rattle.sql_lex.specs.Spelling.{doubled}
use Rattle.row_types.specs.declared.row.Value.{Value}
use Rattle.row_types.specs.declared.row.Value.TheVariants as values
use Rattle.plain_model.specs.declared.reply.Reply.{Reply}
use Rattle.plain_model.specs.declared.reply.Reply.TheVariants.{Done, Many, Rows, Opened, Refused}
use Rattle.plain_model.specs.declared.reply.Refusal.{Refusal}
use Rattle.plain_model.specs.declared.reply.Refusal.TheVariants as refusals
use Rattle.plain_model.specs.declared.stop.Resource.TheVariants as resources
use Rattle.reply_text.specs.Text.{value_text, more_text, row_text, numbers_text, refusal_word, refusal_numbers, reply_text}
use Rattle.reply_text.specs.Apart.{IsNumber, HasNumber, HasNumbers, told}

-- ---- bytes of a kind, up to one that isn't

and_parts : (a b : Bool) → (a && b) ≡ true → (a ≡ true) × (b ≡ true)
and_parts true b e = (refl, e)
and_parts false b e = absurd (cc)

-- the text begins with no byte of the kind
abbrev Stops : (ℕ → Bool) → List ℕ → Type 0
Stops p [] = Unit {0}
Stops p (b ∷ bs) = p b ≡ false

goes_on : (p : ℕ → Bool) (b : ℕ) (bs x : List ℕ) → p b ≡ true → Stops p x → x ≡ b ∷ bs → ⊥
goes_on p b bs x here stops e = absurd (let fails : p b ≡ false = subst (Stops p) e stops in let both = sym here ∙ fails in cc)

span : (p : ℕ → Bool) (u v x y : List ℕ) → list_all p u ≡ true → list_all p v ≡ true → Stops p x → Stops p y → u ++ x ≡ v ++ y → (u ≡ v) × (x ≡ y)
span p [] [] x y all1 all2 stops1 stops2 e = (refl, e)
span p [] (c ∷ cs) x y all1 all2 stops1 stops2 e = absurd (goes_on p c (cs ++ y) x (and_parts (p c) (list_all p cs) all2).0 stops1 e)
span p (b ∷ bs) [] x y all1 all2 stops1 stops2 e = absurd (goes_on p b (bs ++ x) y (and_parts (p b) (list_all p bs) all1).0 stops2 (sym e))
span p (b ∷ bs) (c ∷ cs) x y all1 all2 stops1 stops2 e =
    let head : b ≡ c = cc in
    let tail : bs ++ x ≡ cs ++ y = cc in
    let rest = span p bs cs x y (and_parts (p b) (list_all p bs) all1).1 (and_parts (p c) (list_all p cs) all2).1 stops1 stops2 tail in
    ((λ i. head i ∷ rest.0 i), rest.1)

-- a text of bytes of the kind that isn't empty begins with one
record BeginsWith (p : ℕ → Bool) (text : List ℕ) : Type 0 where
  first : ℕ
  rest : List ℕ
  is : text ≡ first ∷ rest
  kind : p first ≡ true

begins : (p : ℕ → Bool) (u x : List ℕ) → 0 < length u → list_all p u ≡ true → BeginsWith p (u ++ x)
begins p [] x some all = absurd (omega (arith, some))
begins p (b ∷ bs) x some all = record { first = b; rest = bs ++ x; is = refl; kind = (and_parts (p b) (list_all p bs) all).0 }

-- and so with no other byte
not_that : (p : ℕ → Bool) (b : ℕ) (bs text : List ℕ) → p b ≡ false → BeginsWith p text → b ∷ bs ≡ text → ⊥
not_that p b bs text other front e = absurd (let same : b ∷ bs ≡ front.first ∷ front.rest = e ∙ front.is in let head : b ≡ front.first = cc in let both : true ≡ false = sym front.kind ∙ ap p (sym head) ∙ other in cc)

-- ---- numbers

abbrev in_number : ℕ → Bool
in_number b = is_ascii_digit b || b == 45

digit_in_number : (c : ℕ) → digit_value c < 10 → in_number c ≡ true
digit_in_number c small = let range = digit_from_value c small in grind (arith, nat_tests, range)

digits_in_number : (ds : List ℕ) → AllDigits 10 ds → list_all in_number ds ≡ true
digits_in_number [] all = refl
digits_in_number (c ∷ ds) all = rw (digit_in_number c all.0, digits_in_number ds all.1) refl

number_bytes : (z : ℤ) → IsNumber z → list_all in_number (signed_decimal z) ≡ true
number_bytes (pos n) fits = digits_in_number (decimal n) (decimal_is_IsNumeral n fits).0.1
number_bytes (negsuc n) fits = digits_in_number (decimal (suc n)) (decimal_is_IsNumeral (suc n) (omega (arith, fits))).0.1

number_some : (z : ℤ) → IsNumber z → 0 < length (signed_decimal z)
number_some (pos n) fits = (decimal_is_IsNumeral n fits).0.0
number_some (negsuc n) fits = omega arith

no_minus : (ds bs : List ℕ) → AllDigits 10 ds → ds ≡ 45 ∷ bs → ⊥
no_minus ds bs all e = absurd (let digits = subst (AllDigits 10) e all in let range = digit_from_value 45 digits.0 in omega (arith, range.0))

one_number : (y z : ℤ) → IsNumber y → IsNumber z → signed_decimal y ≡ signed_decimal z → y ≡ z
one_number (pos m) (pos n) fits1 fits2 e = ap pos (decimal_injective m n fits1 fits2 e)
one_number (pos m) (negsuc n) fits1 fits2 e = absurd (no_minus (decimal m) (decimal (suc n)) (decimal_is_IsNumeral m fits1).0.1 e)
one_number (negsuc m) (pos n) fits1 fits2 e = absurd (no_minus (decimal n) (decimal (suc m)) (decimal_is_IsNumeral n fits2).0.1 (sym e))
one_number (negsuc m) (negsuc n) fits1 fits2 e =
    let digits : decimal (suc m) ≡ decimal (suc n) = cc in
    let same : suc m ≡ suc n = decimal_injective (suc m) (suc n) (omega (arith, fits1)) (omega (arith, fits2)) digits in
    let less : m ≡ n = omega (arith, same) in
    ap negsuc less

number_read : (y z : ℤ) (r s : List ℕ) → IsNumber y → IsNumber z → Stops in_number r → Stops in_number s → signed_decimal y ++ r ≡ signed_decimal z ++ s → (y ≡ z) × (r ≡ s)
number_read y z r s fits1 fits2 stops1 stops2 e =
    let same = span in_number (signed_decimal y) (signed_decimal z) r s (number_bytes y fits1) (number_bytes z fits2) stops1 stops2 e in
    (one_number y z fits1 fits2 same.0, same.1)

number_begins : (z : ℤ) (r : List ℕ) → IsNumber z → BeginsWith in_number (signed_decimal z ++ r)
number_begins z r fits = begins in_number (signed_decimal z) r (number_some z fits) (number_bytes z fits)

-- ---- numbers, each behind a space

numbers_more : (n : ℤ) (ns : List ℤ) (t : List ℕ) → numbers_text (n ∷ ns) ++ t ≡ 32 ∷ (signed_decimal n ++ (numbers_text ns ++ t))
numbers_more n ns t = ap (λ (l : List ℕ). 32 ∷ l) (append_assoc (signed_decimal n) (numbers_text ns) t)

numbers_stop : (ns : List ℤ) (r : List ℕ) → Stops in_number (numbers_text ns ++ 10 ∷ r)
numbers_stop [] r = refl
numbers_stop (n ∷ ns) r = refl

numbers_read : (ns ms : List ℤ) (r s : List ℕ) → AllByRecursion IsNumber ns → AllByRecursion IsNumber ms → numbers_text ns ++ 10 ∷ r ≡ numbers_text ms ++ 10 ∷ s → ns ≡ ms
numbers_read [] [] r s all1 all2 e = refl
numbers_read [] (m ∷ ms) r s all1 all2 e = absurd (let wrong : 10 ≡ 32 = ap (λ (l : List ℕ). get_or l 0 0) e in omega (arith, wrong))
numbers_read (n ∷ ns) [] r s all1 all2 e = absurd (let wrong : 32 ≡ 10 = ap (λ (l : List ℕ). get_or l 0 0) e in omega (arith, wrong))
numbers_read (n ∷ ns) (m ∷ ms) r s all1 all2 e =
    let both : 32 ∷ (signed_decimal n ++ (numbers_text ns ++ 10 ∷ r)) ≡ 32 ∷ (signed_decimal m ++ (numbers_text ms ++ 10 ∷ s)) = sym (numbers_more n ns (10 ∷ r)) ∙ e ∙ numbers_more m ms (10 ∷ s) in
    let tail = append_cancel_left (32 ∷ []) (signed_decimal n ++ (numbers_text ns ++ 10 ∷ r)) (signed_decimal m ++ (numbers_text ms ++ 10 ∷ s)) both in
    let first = number_read n m (numbers_text ns ++ 10 ∷ r) (numbers_text ms ++ 10 ∷ s) all1.0 all2.0 (numbers_stop ns r) (numbers_stop ms s) tail in
    let rest = numbers_read ns ms r s all1.1 all2.1 first.1 in
    λ i. first.0 i ∷ rest i

-- ---- refusals: their words

abbrev in_word : ℕ → Bool
in_word b = b == 32 || is_ascii_uppercase b

word_bytes : (r : Refusal) → list_all in_word (refusal_word r) ≡ true
word_bytes (refusals.Syntax a) = refl
word_bytes refusals.InBlock = refl
word_bytes refusals.NoBlock = refl
word_bytes refusals.OnlyFirst = refl
word_bytes refusals.NoTable = refl
word_bytes refusals.NoColumn = refl
word_bytes refusals.Kind = refl
word_bytes refusals.Order = refl
word_bytes refusals.KeyFixed = refl
word_bytes refusals.Twice = refl
word_bytes (refusals.Count a b) = refl
word_bytes (refusals.Length a b) = refl
word_bytes (refusals.Duplicate key) = refl
word_bytes refusals.Range = refl
word_bytes refusals.TableExists = refl
word_bytes (refusals.Tables a) = refl
word_bytes (refusals.Columns a) = refl
word_bytes (refusals.SameName a) = refl
word_bytes refusals.NoKey = refl
word_bytes (refusals.TooWide a) = refl
word_bytes (refusals.Spent a) = refl
word_bytes (refusals.Resource (resources.Pages a b)) = refl
word_bytes (refusals.Resource (resources.Nodes a b)) = refl
word_bytes (refusals.Resource (resources.Txn a b)) = refl
word_bytes (refusals.Resource (resources.Locks a b)) = refl
word_bytes (refusals.Resource (resources.LogFull a b)) = refl
word_bytes (refusals.Resource (resources.Busy a)) = refl

nat_of : ℤ → ℕ
nat_of (pos n) = n
nat_of (negsuc n) = 0

first : List ℤ → ℕ
first [] = 0
first (n ∷ ns) = nat_of n

second : List ℤ → ℕ
second [] = 0
second (n ∷ ns) = first ns

-- the refusal of a word and its numbers
refusal_of : List ℕ → List ℤ → Refusal
refusal_of w ns =
    if bytes_eq w (codes "SYNTAX") then refusals.Syntax (first ns) else (if bytes_eq w (codes "IN BLOCK") then refusals.InBlock else (if bytes_eq w (codes "NO BLOCK") then refusals.NoBlock else (if bytes_eq w (codes "ONLY FIRST") then refusals.OnlyFirst else (if bytes_eq w (codes "NO TABLE") then refusals.NoTable else (if bytes_eq w (codes "NO COLUMN") then refusals.NoColumn else (if bytes_eq w (codes "KIND") then refusals.Kind else (if bytes_eq w (codes "ORDER") then refusals.Order else (if bytes_eq w (codes "KEY FIXED") then refusals.KeyFixed else (if bytes_eq w (codes "TWICE") then refusals.Twice else (if bytes_eq w (codes "COUNT") then refusals.Count (first ns) (second ns) else (if bytes_eq w (codes "LENGTH") then refusals.Length (first ns) (second ns) else (if bytes_eq w (codes "DUPLICATE") then refusals.Duplicate ns else (if bytes_eq w (codes "RANGE") then refusals.Range else (if bytes_eq w (codes "TABLE EXISTS") then refusals.TableExists else (if bytes_eq w (codes "TABLES") then refusals.Tables (first ns) else (if bytes_eq w (codes "COLUMNS") then refusals.Columns (first ns) else (if bytes_eq w (codes "SAME NAME") then refusals.SameName (first ns) else (if bytes_eq w (codes "NO KEY") then refusals.NoKey else (if bytes_eq w (codes "TOO WIDE") then refusals.TooWide (first ns) else (if bytes_eq w (codes "SPENT") then refusals.Spent (first ns) else (if bytes_eq w (codes "PAGES FULL") then refusals.Resource (resources.Pages (first ns) (second ns)) else (if bytes_eq w (codes "NODES FULL") then refusals.Resource (resources.Nodes (first ns) (second ns)) else (if bytes_eq w (codes "TXN FULL") then refusals.Resource (resources.Txn (first ns) (second ns)) else (if bytes_eq w (codes "LOCKS FULL") then refusals.Resource (resources.Locks (first ns) (second ns)) else (if bytes_eq w (codes "LOG FULL") then refusals.Resource (resources.LogFull (first ns) (second ns)) else (if bytes_eq w (codes "BUSY") then refusals.Resource (resources.Busy (first ns)) else (refusals.Kind)))))))))))))))))))))))))))

refusal_is : (r : Refusal) → refusal_of (refusal_word r) (refusal_numbers r) ≡ r
unfolding nat_of first second refusal_of
refusal_is (refusals.Syntax a) = refl
refusal_is refusals.InBlock = refl
refusal_is refusals.NoBlock = refl
refusal_is refusals.OnlyFirst = refl
refusal_is refusals.NoTable = refl
refusal_is refusals.NoColumn = refl
refusal_is refusals.Kind = refl
refusal_is refusals.Order = refl
refusal_is refusals.KeyFixed = refl
refusal_is refusals.Twice = refl
refusal_is (refusals.Count a b) = refl
refusal_is (refusals.Length a b) = refl
refusal_is (refusals.Duplicate key) = refl
refusal_is refusals.Range = refl
refusal_is refusals.TableExists = refl
refusal_is (refusals.Tables a) = refl
refusal_is (refusals.Columns a) = refl
refusal_is (refusals.SameName a) = refl
refusal_is refusals.NoKey = refl
refusal_is (refusals.TooWide a) = refl
refusal_is (refusals.Spent a) = refl
refusal_is (refusals.Resource (resources.Pages a b)) = refl
refusal_is (refusals.Resource (resources.Nodes a b)) = refl
refusal_is (refusals.Resource (resources.Txn a b)) = refl
refusal_is (refusals.Resource (resources.Locks a b)) = refl
refusal_is (refusals.Resource (resources.LogFull a b)) = refl
refusal_is (refusals.Resource (resources.Busy a)) = refl

-- a word and what stands behind it up to the first number, and the rest
front : List ℕ → List ℤ → List ℕ
front w [] = w
front w (n ∷ ns) = w ++ 32 ∷ []

behind : List ℤ → List ℕ → List ℕ
behind [] x = 10 ∷ x
behind (n ∷ ns) x = signed_decimal n ++ (numbers_text ns ++ 10 ∷ x)

refusal_split : (w : List ℕ) (ns : List ℤ) (x : List ℕ) → (w ++ (numbers_text ns ++ 10 ∷ [])) ++ x ≡ front w ns ++ behind ns x
unfolding front behind
refusal_split w [] x = append_assoc w (10 ∷ []) x
refusal_split w (n ∷ ns) x =
    append_assoc w (numbers_text (n ∷ ns) ++ 10 ∷ []) x ∙ ap (λ (l : List ℕ). w ++ l) (append_assoc (numbers_text (n ∷ ns)) (10 ∷ []) x)
    ∙ ap (λ (l : List ℕ). w ++ l) (numbers_more n ns (10 ∷ x)) ∙ sym (append_assoc w (32 ∷ []) (signed_decimal n ++ (numbers_text ns ++ 10 ∷ x)))

front_bytes : (w : List ℕ) (ns : List ℤ) → list_all in_word w ≡ true → list_all in_word (front w ns) ≡ true
unfolding front
front_bytes w [] all = all
front_bytes w (n ∷ ns) all = list_all-append in_word w (32 ∷ []) ∙ rw all refl

no_word : (b : ℕ) → in_number b ≡ true → in_word b ≡ false
no_word b e = grind (arith, nat_tests, e)

stops_by : (text : List ℕ) → BeginsWith in_number text → Stops in_word text
stops_by text is = subst (Stops in_word) (sym is.is) (no_word is.first is.kind)

behind_stops : (ns : List ℤ) (x : List ℕ) → AllByRecursion IsNumber ns → Stops in_word (behind ns x)
unfolding behind
behind_stops [] x all = refl
behind_stops (n ∷ ns) x all = stops_by (signed_decimal n ++ (numbers_text ns ++ 10 ∷ x)) (number_begins n (numbers_text ns ++ 10 ∷ x) all.0)

both_same : (v w : List ℕ) (ns ms : List ℤ) (x y : List ℕ) → AllByRecursion IsNumber ns → AllByRecursion IsNumber ms → front v ns ≡ front w ms → behind ns x ≡ behind ms y → (v ≡ w) × (ns ≡ ms)
unfolding front behind
both_same v w [] [] x y all1 all2 e f = (e, refl)
both_same v w [] (m ∷ ms) x y all1 all2 e f = absurd (not_that in_number 10 x (signed_decimal m ++ (numbers_text ms ++ 10 ∷ y)) refl (number_begins m (numbers_text ms ++ 10 ∷ y) all2.0) f)
both_same v w (n ∷ ns) [] x y all1 all2 e f = absurd (not_that in_number 10 y (signed_decimal n ++ (numbers_text ns ++ 10 ∷ x)) refl (number_begins n (numbers_text ns ++ 10 ∷ x) all1.0) (sym f))
both_same v w (n ∷ ns) (m ∷ ms) x y all1 all2 e f =
    let first = number_read n m (numbers_text ns ++ 10 ∷ x) (numbers_text ms ++ 10 ∷ y) all1.0 all2.0 (numbers_stop ns x) (numbers_stop ms y) f in
    let rest = numbers_read ns ms x y all1.1 all2.1 first.1 in
    (append_cancel_right v w (32 ∷ []) e, λ i. first.0 i ∷ rest i)

one_refusal : (a b : Refusal) (x y : List ℕ) → AllByRecursion IsNumber (refusal_numbers a) → AllByRecursion IsNumber (refusal_numbers b)
    → (refusal_word a ++ (numbers_text (refusal_numbers a) ++ 10 ∷ [])) ++ x ≡ (refusal_word b ++ (numbers_text (refusal_numbers b) ++ 10 ∷ [])) ++ y → a ≡ b
one_refusal a b x y all1 all2 e =
    let v = refusal_word a in
    let w = refusal_word b in
    let ns = refusal_numbers a in
    let ms = refusal_numbers b in
    let parts = span in_word (front v ns) (front w ms) (behind ns x) (behind ms y) (front_bytes v ns (word_bytes a)) (front_bytes w ms (word_bytes b)) (behind_stops ns x all1) (behind_stops ms y all2) (sym (refusal_split v ns x) ∙ e ∙ refusal_split w ms y) in
    let same = both_same v w ns ms x y all1 all2 parts.0 parts.1 in
    sym (refusal_is a) ∙ ap (λ l. refusal_of l ns) same.0 ∙ ap (λ l. refusal_of w l) same.1 ∙ refusal_is b

-- ---- texts between quotes

abbrev is_quote : ℕ → Bool
is_quote b = b == 39

doubled_quote : (c : ℕ) (cs : List ℕ) → eqb c 39 ≡ true → doubled (c ∷ cs) ≡ 39 ∷ 39 ∷ doubled cs
doubled_quote c cs e = rw e refl

doubled_other : (c : ℕ) (cs : List ℕ) → eqb c 39 ≡ false → doubled (c ∷ cs) ≡ c ∷ doubled cs
doubled_other c cs e = rw e refl

head_is : (a b : ℕ) (x y : List ℕ) → a ∷ x ≡ b ∷ y → a ≡ b
head_is a b x y e = cc

tail_is : (a b : ℕ) (x y : List ℕ) → a ∷ x ≡ b ∷ y → x ≡ y
tail_is a b x y e = cc

no_quote : (c : ℕ) → eqb c 39 ≡ false → 39 ≡ c → ⊥
no_quote c e same = absurd (let both : eqb 39 39 ≡ false = ap (λ n. eqb n 39) same ∙ e in cc)

-- a text that has ended has no further byte
ended : (t : Bool) (c : ℕ) (cs r s : List ℕ) → eqb c 39 ≡ t → Stops is_quote r → 39 ∷ r ≡ doubled (c ∷ cs) ++ 39 ∷ s → ⊥
ended true c cs r s f stops e =
    let whole : 39 ∷ r ≡ 39 ∷ 39 ∷ (doubled cs ++ 39 ∷ s) = e ∙ ap (λ (l : List ℕ). l ++ 39 ∷ s) (doubled_quote c cs f) in
    goes_on is_quote 39 (doubled cs ++ 39 ∷ s) r refl stops (tail_is 39 39 r (39 ∷ (doubled cs ++ 39 ∷ s)) whole)
ended false c cs r s f stops e = no_quote c f (head_is 39 c r (doubled cs ++ 39 ∷ s) (e ∙ ap (λ (l : List ℕ). l ++ 39 ∷ s) (doubled_other c cs f)))

-- two texts have the same next byte
step : (t u : Bool) (c d : ℕ) (cs ds x y : List ℕ) → eqb c 39 ≡ t → eqb d 39 ≡ u → doubled (c ∷ cs) ++ x ≡ doubled (d ∷ ds) ++ y → (c ≡ d) × (doubled cs ++ x ≡ doubled ds ++ y)
step true true c d cs ds x y f g e =
    let whole : 39 ∷ 39 ∷ (doubled cs ++ x) ≡ 39 ∷ 39 ∷ (doubled ds ++ y) = ap (λ (l : List ℕ). l ++ x) (sym (doubled_quote c cs f)) ∙ e ∙ ap (λ (l : List ℕ). l ++ y) (doubled_quote d ds g) in
    (eqb-true c 39 f ∙ sym (eqb-true d 39 g), append_cancel_left (39 ∷ 39 ∷ []) (doubled cs ++ x) (doubled ds ++ y) whole)
step true false c d cs ds x y f g e =
    absurd (no_quote d g (head_is 39 d (39 ∷ (doubled cs ++ x)) (doubled ds ++ y) (ap (λ (l : List ℕ). l ++ x) (sym (doubled_quote c cs f)) ∙ e ∙ ap (λ (l : List ℕ). l ++ y) (doubled_other d ds g))))
step false true c d cs ds x y f g e =
    absurd (no_quote c f (sym (head_is c 39 (doubled cs ++ x) (39 ∷ (doubled ds ++ y)) (ap (λ (l : List ℕ). l ++ x) (sym (doubled_other c cs f)) ∙ e ∙ ap (λ (l : List ℕ). l ++ y) (doubled_quote d ds g)))))
step false false c d cs ds x y f g e =
    let whole : c ∷ (doubled cs ++ x) ≡ d ∷ (doubled ds ++ y) = ap (λ (l : List ℕ). l ++ x) (sym (doubled_other c cs f)) ∙ e ∙ ap (λ (l : List ℕ). l ++ y) (doubled_other d ds g) in
    (head_is c d (doubled cs ++ x) (doubled ds ++ y) whole, tail_is c d (doubled cs ++ x) (doubled ds ++ y) whole)

doubled_read : (a b r s : List ℕ) → Stops is_quote r → Stops is_quote s → doubled a ++ 39 ∷ r ≡ doubled b ++ 39 ∷ s → (a ≡ b) × (r ≡ s)
doubled_read [] [] r s stops1 stops2 e = (refl, tail_is 39 39 r s e)
doubled_read [] (d ∷ ds) r s stops1 stops2 e = absurd (ended (eqb d 39) d ds r s refl stops1 e)
doubled_read (c ∷ cs) [] r s stops1 stops2 e = absurd (ended (eqb c 39) c cs s r refl stops2 (sym e))
doubled_read (c ∷ cs) (d ∷ ds) r s stops1 stops2 e =
    let both = step (eqb c 39) (eqb d 39) c d cs ds (39 ∷ r) (39 ∷ s) refl refl e in
    let rest = doubled_read cs ds r s stops1 stops2 both.1 in
    ((λ i. both.0 i ∷ rest.0 i), rest.1)

-- ---- values and rows

-- this byte continues neither a number nor a text
abbrev EndsValue : List ℕ → Type 0
EndsValue r = Stops in_number r × Stops is_quote r

text_is : (t r : List ℕ) → value_text (values.Text t) ++ r ≡ 39 ∷ (doubled t ++ 39 ∷ r)
text_is t r = ap (λ (l : List ℕ). 39 ∷ l) (append_assoc (doubled t) (39 ∷ []) r)

value_read : (v w : Value) (r s : List ℕ) → HasNumber v → HasNumber w → EndsValue r → EndsValue s → value_text v ++ r ≡ value_text w ++ s → (v ≡ w) × (r ≡ s)
value_read (values.Int m) (values.Int n) r s fits1 fits2 ends1 ends2 e = let same = number_read m n r s fits1 fits2 ends1.0 ends2.0 e in (ap values.Int same.0, same.1)
value_read (values.Int m) (values.Text t) r s fits1 fits2 ends1 ends2 e = absurd (not_that in_number 39 (doubled t ++ 39 ∷ s) (signed_decimal m ++ r) refl (number_begins m r fits1) (sym (text_is t s) ∙ sym e))
value_read (values.Text t) (values.Int n) r s fits1 fits2 ends1 ends2 e = absurd (not_that in_number 39 (doubled t ++ 39 ∷ r) (signed_decimal n ++ s) refl (number_begins n s fits2) (sym (text_is t r) ∙ e))
value_read (values.Text t) (values.Text u) r s fits1 fits2 ends1 ends2 e =
    let whole = sym (text_is t r) ∙ e ∙ text_is u s in
    let same = doubled_read t u r s ends1.1 ends2.1 (tail_is 39 39 (doubled t ++ 39 ∷ r) (doubled u ++ 39 ∷ s) whole) in
    (ap values.Text same.0, same.1)

-- what a row begins with: a line end, or a value
abbrev begins_row : ℕ → Bool
begins_row b = b == 10 || (b == 39 || in_number b)

abbrev begins_value : ℕ → Bool
begins_value b = b == 39 || in_number b

number_first : (b : ℕ) → in_number b ≡ true → begins_value b ≡ true
number_first b e = rw e (either (b == 39))
  where
    either : (t : Bool) → (t || true) ≡ true
    either true = refl
    either false = refl

value_begins : (v : Value) (r : List ℕ) → HasNumber v → BeginsWith begins_value (value_text v ++ r)
value_begins (values.Int n) r fits = let is = number_begins n r fits in record { first = is.first; rest = is.rest; is = is.is; kind = number_first is.first is.kind }
value_begins (values.Text t) r fits = record { first = 39; rest = (doubled t ++ 39 ∷ []) ++ r; is = refl; kind = refl }

more_is : (v : Value) (vs : List Value) (t : List ℕ) → flat_map more_text (v ∷ vs) ++ t ≡ 44 ∷ 32 ∷ (value_text v ++ (flat_map more_text vs ++ t))
more_is v vs t = ap (λ (l : List ℕ). 44 ∷ 32 ∷ l) (append_assoc (value_text v) (flat_map more_text vs) t)

more_ends : (vs : List Value) (r : List ℕ) → EndsValue (flat_map more_text vs ++ 10 ∷ r)
more_ends [] r = (refl, refl)
more_ends (v ∷ vs) r = (refl, refl)

abbrev HasAll : List Value → Type 0
HasAll row = AllByRecursion HasNumber row

more_read : (vs ws : List Value) (r s : List ℕ) → HasAll vs → HasAll ws → flat_map more_text vs ++ 10 ∷ r ≡ flat_map more_text ws ++ 10 ∷ s → (vs ≡ ws) × (r ≡ s)
more_read [] [] r s all1 all2 e = (refl, tail_is 10 10 r s e)
more_read [] (w ∷ ws) r s all1 all2 e = absurd (let wrong : 10 ≡ 44 = ap (λ (l : List ℕ). get_or l 0 0) e in omega (arith, wrong))
more_read (v ∷ vs) [] r s all1 all2 e = absurd (let wrong : 44 ≡ 10 = ap (λ (l : List ℕ). get_or l 0 0) e in omega (arith, wrong))
more_read (v ∷ vs) (w ∷ ws) r s all1 all2 e =
    let x = value_text v ++ (flat_map more_text vs ++ 10 ∷ r) in
    let y = value_text w ++ (flat_map more_text ws ++ 10 ∷ s) in
    let whole = append_cancel_left (44 ∷ 32 ∷ []) x y (sym (more_is v vs (10 ∷ r)) ∙ e ∙ more_is w ws (10 ∷ s)) in
    let first = value_read v w (flat_map more_text vs ++ 10 ∷ r) (flat_map more_text ws ++ 10 ∷ s) all1.0 all2.0 (more_ends vs r) (more_ends ws s) whole in
    let rest = more_read vs ws r s all1.1 all2.1 first.1 in
    ((λ i. first.0 i ∷ rest.0 i), rest.1)

row_is : (v : Value) (vs : List Value) (r : List ℕ) → row_text (v ∷ vs) ++ r ≡ value_text v ++ (flat_map more_text vs ++ 10 ∷ r)
row_is v vs r = append_assoc (value_text v) (flat_map more_text vs ++ 10 ∷ []) r ∙ ap (λ (l : List ℕ). value_text v ++ l) (append_assoc (flat_map more_text vs) (10 ∷ []) r)

row_read : (a b : List Value) (r s : List ℕ) → HasAll a → HasAll b → row_text a ++ r ≡ row_text b ++ s → (a ≡ b) × (r ≡ s)
row_read [] [] r s all1 all2 e = (refl, tail_is 10 10 r s e)
row_read [] (w ∷ ws) r s all1 all2 e = absurd (not_that begins_value 10 r (value_text w ++ (flat_map more_text ws ++ 10 ∷ s)) refl (value_begins w (flat_map more_text ws ++ 10 ∷ s) all2.0) (e ∙ row_is w ws s))
row_read (v ∷ vs) [] r s all1 all2 e = absurd (not_that begins_value 10 s (value_text v ++ (flat_map more_text vs ++ 10 ∷ r)) refl (value_begins v (flat_map more_text vs ++ 10 ∷ r) all1.0) (sym e ∙ row_is v vs r))
row_read (v ∷ vs) (w ∷ ws) r s all1 all2 e =
    let first = value_read v w (flat_map more_text vs ++ 10 ∷ r) (flat_map more_text ws ++ 10 ∷ s) all1.0 all2.0 (more_ends vs r) (more_ends ws s) (sym (row_is v vs r) ∙ e ∙ row_is w ws s) in
    let rest = more_read vs ws r s all1.1 all2.1 first.1 in
    ((λ i. first.0 i ∷ rest.0 i), rest.1)

value_first : (b : ℕ) → begins_value b ≡ true → begins_row b ≡ true
value_first b e = rw e (either (b == 10))
  where
    either : (t : Bool) → (t || true) ≡ true
    either true = refl
    either false = refl

row_begins : (row : List Value) (r : List ℕ) → HasAll row → BeginsWith begins_row (row_text row ++ r)
row_begins [] r all = record { first = 10; rest = r; is = refl; kind = refl }
row_begins (v ∷ vs) r all =
    let is = value_begins v (flat_map more_text vs ++ 10 ∷ r) all.0 in
    record { first = is.first; rest = is.rest; is = row_is v vs r ∙ is.is; kind = value_first is.first is.kind }

abbrev HasEach : List (List Value) → Type 0
HasEach rows = AllByRecursion (λ row. AllByRecursion HasNumber row) rows

rows_is : (row : List Value) (rows : List (List Value)) (t : List ℕ) → flat_map row_text (row ∷ rows) ++ t ≡ row_text row ++ (flat_map row_text rows ++ t)
rows_is row rows t = append_assoc (row_text row) (flat_map row_text rows) t

-- rows, and then the line with their number
rows_read : (a b : List (List Value)) (u v : List ℕ) → HasEach a → HasEach b → flat_map row_text a ++ 114 ∷ u ≡ flat_map row_text b ++ 114 ∷ v → a ≡ b
rows_read [] [] u v all1 all2 e = refl
rows_read [] (row ∷ rows) u v all1 all2 e = absurd (not_that begins_row 114 u (row_text row ++ (flat_map row_text rows ++ 114 ∷ v)) refl (row_begins row (flat_map row_text rows ++ 114 ∷ v) all2.0) (e ∙ rows_is row rows (114 ∷ v)))
rows_read (row ∷ rows) [] u v all1 all2 e = absurd (not_that begins_row 114 v (row_text row ++ (flat_map row_text rows ++ 114 ∷ u)) refl (row_begins row (flat_map row_text rows ++ 114 ∷ u) all1.0) (sym e ∙ rows_is row rows (114 ∷ u)))
rows_read (row ∷ rows) (other ∷ others) u v all1 all2 e =
    let first = row_read row other (flat_map row_text rows ++ 114 ∷ u) (flat_map row_text others ++ 114 ∷ v) all1.0 all2.0 (sym (rows_is row rows (114 ∷ u)) ∙ e ∙ rows_is other others (114 ∷ v)) in
    let rest = rows_read rows others u v all1.1 all2.1 first.1 in
    λ i. first.0 i ∷ rest i

-- ---- replies

-- what stands behind the first letter of the line with the number of rows
last_line : List (List Value) → List ℕ → List ℕ
last_line rows x = (codes "ows " ++ (decimal (length rows) ++ codes "\n")) ++ x

all_rows : (rows : List (List Value)) (x : List ℕ) → reply_text (Rows rows) ++ x ≡ flat_map row_text rows ++ 114 ∷ last_line rows x
unfolding last_line
all_rows rows x = append_assoc (flat_map row_text rows) (codes "rows " ++ (decimal (length rows) ++ codes "\n")) x

-- rows aren't read as what begins with another letter
no_rows : (b : ℕ) (bs x : List ℕ) (rows : List (List Value)) → HasEach rows → begins_row b ≡ false → (b ≡ 114 → ⊥) → b ∷ bs ≡ reply_text (Rows rows) ++ x → ⊥
no_rows b bs x [] all none other e = other (head_is b 114 bs (last_line [] x) (e ∙ all_rows [] x))
no_rows b bs x (row ∷ rows) all none other e =
    not_that begins_row b bs (row_text row ++ (flat_map row_text rows ++ 114 ∷ last_line (row ∷ rows) x)) none (row_begins row (flat_map row_text rows ++ 114 ∷ last_line (row ∷ rows) x) all.0) (e ∙ all_rows (row ∷ rows) x ∙ rows_is row rows (114 ∷ last_line (row ∷ rows) x))

ok_no_rows : (bs x : List ℕ) (rows : List (List Value)) → HasEach rows → 111 ∷ bs ≡ reply_text (Rows rows) ++ x → ⊥
ok_no_rows bs x rows all e = no_rows 111 bs x rows all refl (λ wrong. absurd (omega (arith, wrong))) e

refused_no_rows : (refusal : Refusal) (x y : List ℕ) (rows : List (List Value)) → HasEach rows → reply_text (Refused refusal) ++ x ≡ reply_text (Rows rows) ++ y → ⊥
refused_no_rows refusal x y [] all e = absurd (let wrong : 101 ≡ 111 = ap (λ (l : List ℕ). get_or l 1 0) e in omega (arith, wrong))
refused_no_rows refusal x y (row ∷ rows) all e =
    not_that begins_row 114 (codes "efused " ++ ((refusal_word refusal ++ (numbers_text (refusal_numbers refusal) ++ 10 ∷ [])) ++ x)) (row_text row ++ (flat_map row_text rows ++ 114 ∷ last_line (row ∷ rows) y)) refl (row_begins row (flat_map row_text rows ++ 114 ∷ last_line (row ∷ rows) y) all.0) (e ∙ all_rows (row ∷ rows) y ∙ rows_is row rows (114 ∷ last_line (row ∷ rows) y))

count_is : (n : ℕ) (x : List ℕ) → reply_text (Many n) ++ x ≡ 111 ∷ 107 ∷ 32 ∷ (decimal n ++ 10 ∷ x)
count_is n x = ap (λ (l : List ℕ). 111 ∷ 107 ∷ 32 ∷ l) (append_assoc (decimal n) (10 ∷ []) x)

one_count : (m n : ℕ) (x y : List ℕ) → m < 2 ^ 64 → n < 2 ^ 64 → reply_text (Many m) ++ x ≡ reply_text (Many n) ++ y → Many m ≡ Many n
unfolding nat_of
one_count m n x y fits1 fits2 e =
    let whole = append_cancel_left (111 ∷ 107 ∷ 32 ∷ []) (decimal m ++ 10 ∷ x) (decimal n ++ 10 ∷ y) (sym (count_is m x) ∙ e ∙ count_is n y) in
    let same = (number_read (pos m) (pos n) (10 ∷ x) (10 ∷ y) fits1 fits2 refl refl whole).0 in
    ap (λ z. Many (nat_of z)) same

one_reply : (a b : Reply) (x y : List ℕ) → HasNumbers a → HasNumbers b → reply_text a ++ x ≡ reply_text b ++ y → told a ≡ told b
one_reply Done Done x y fits1 fits2 e = refl
one_reply Done (Many n) x y fits1 fits2 e = absurd (let wrong : 10 ≡ 32 = ap (λ (l : List ℕ). get_or l 2 0) e in omega (arith, wrong))
one_reply Done (Opened n) x y fits1 fits2 e = absurd (let wrong : 10 ≡ 32 = ap (λ (l : List ℕ). get_or l 2 0) e in omega (arith, wrong))
one_reply Done (Rows others) x y fits1 fits2 e = absurd (ok_no_rows _ y others fits2 e)
one_reply Done (Refused other) x y fits1 fits2 e = absurd (let wrong : 111 ≡ 114 = ap (λ (l : List ℕ). get_or l 0 0) e in omega (arith, wrong))
one_reply (Many m) Done x y fits1 fits2 e = absurd (let wrong : 32 ≡ 10 = ap (λ (l : List ℕ). get_or l 2 0) e in omega (arith, wrong))
one_reply (Many m) (Many n) x y fits1 fits2 e = one_count m n x y fits1 fits2 e
one_reply (Many m) (Opened n) x y fits1 fits2 e = one_count m n x y fits1 fits2 e
one_reply (Many m) (Rows others) x y fits1 fits2 e = absurd (ok_no_rows _ y others fits2 e)
one_reply (Many m) (Refused other) x y fits1 fits2 e = absurd (let wrong : 111 ≡ 114 = ap (λ (l : List ℕ). get_or l 0 0) e in omega (arith, wrong))
one_reply (Opened m) Done x y fits1 fits2 e = absurd (let wrong : 32 ≡ 10 = ap (λ (l : List ℕ). get_or l 2 0) e in omega (arith, wrong))
one_reply (Opened m) (Many n) x y fits1 fits2 e = one_count m n x y fits1 fits2 e
one_reply (Opened m) (Opened n) x y fits1 fits2 e = one_count m n x y fits1 fits2 e
one_reply (Opened m) (Rows others) x y fits1 fits2 e = absurd (ok_no_rows _ y others fits2 e)
one_reply (Opened m) (Refused other) x y fits1 fits2 e = absurd (let wrong : 111 ≡ 114 = ap (λ (l : List ℕ). get_or l 0 0) e in omega (arith, wrong))
one_reply (Rows rows) Done x y fits1 fits2 e = absurd (ok_no_rows _ x rows fits1 (sym e))
one_reply (Rows rows) (Many n) x y fits1 fits2 e = absurd (ok_no_rows _ x rows fits1 (sym e))
one_reply (Rows rows) (Opened n) x y fits1 fits2 e = absurd (ok_no_rows _ x rows fits1 (sym e))
one_reply (Rows rows) (Rows others) x y fits1 fits2 e = ap Rows (rows_read rows others (last_line rows x) (last_line others y) fits1 fits2 (sym (all_rows rows x) ∙ e ∙ all_rows others y))
one_reply (Rows rows) (Refused other) x y fits1 fits2 e = absurd (refused_no_rows other y x rows fits1 (sym e))
one_reply (Refused refusal) Done x y fits1 fits2 e = absurd (let wrong : 114 ≡ 111 = ap (λ (l : List ℕ). get_or l 0 0) e in omega (arith, wrong))
one_reply (Refused refusal) (Many n) x y fits1 fits2 e = absurd (let wrong : 114 ≡ 111 = ap (λ (l : List ℕ). get_or l 0 0) e in omega (arith, wrong))
one_reply (Refused refusal) (Opened n) x y fits1 fits2 e = absurd (let wrong : 114 ≡ 111 = ap (λ (l : List ℕ). get_or l 0 0) e in omega (arith, wrong))
one_reply (Refused refusal) (Rows others) x y fits1 fits2 e = absurd (refused_no_rows refusal x y others fits2 e)
one_reply (Refused refusal) (Refused other) x y fits1 fits2 e = ap Refused (one_refusal refusal other x y fits1 fits2 (append_cancel_left (codes "refused ") ((refusal_word refusal ++ (numbers_text (refusal_numbers refusal) ++ 10 ∷ [])) ++ x) ((refusal_word other ++ (numbers_text (refusal_numbers other) ++ 10 ∷ [])) ++ y) e))

told_text : (a : Reply) → reply_text (told a) ≡ reply_text a
told_text Done = refl
told_text (Many n) = refl
told_text (Opened n) = refl
told_text (Rows rows) = refl
told_text (Refused refusal) = refl

-- the text of a reply tells which it is, and where it ends
pub told_apart : (a b : Reply) (x y : List ℕ) → HasNumbers a → HasNumbers b → reply_text a ++ x ≡ reply_text b ++ y → (told a ≡ told b) × (x ≡ y)
told_apart a b x y fits1 fits2 e =
    let same = one_reply a b x y fits1 fits2 e in
    let texts : reply_text a ≡ reply_text b = sym (told_text a) ∙ ap reply_text same ∙ told_text b in
    (same, append_cancel_left (reply_text b) x y (ap (λ (l : List ℕ). l ++ x) (sym texts) ∙ e))
