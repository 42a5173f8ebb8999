-- Where the statement at the front of a text ends: what is read is so, and what is so is read.
use Rattle.std.proofs.Common.{◌≡◌, ℕ, ◌+◌, ◌<◌, ◌≤◌, Bool, true, false, eqb, List, [], ◌∷◌, ◌++◌, length, get_or, drop, Option, None, Some, refl, sym, ap, subst, ◌∙◌, arith, append_assoc, length-append, ◌⊎◌, inl, inr}
use Rattle.std.specs.Prelude.{IsTrue, ◌||◌, option_map, unwrap_or}
use Rattle.std.specs.List.{list_all}
use Rattle.std.proofs.lemmas.List.{append-nil, drop_all}
use Rattle.std.proofs.lemmas.Bool.{eqb-true}
use Rattle.sql_lex.specs.Tokens.{opens_comment}
use Rattle.script.specs.Statements.{Part, Literal as Quoted, Comment as Noted, Byte, part_text, in_literal, in_comment, EndsLine, StandsBefore, AreParts, IsWhole, OpensLiteral, EndsInLiteral}
use Rattle.script.specs.Reading.{after_byte, stop_at, later, end_of}
use Rattle.script.specs.declared.scanning.Inside.{Inside}
use Rattle.script.specs.declared.scanning.Inside.TheVariants.{Neither, Literal, Comment}
use Rattle.script.specs.declared.scanning.StatementEnd.{StatementEnd}
use Rattle.script.specs.declared.scanning.StatementEnd.TheVariants.{Semicolon, LineEnd, TextEnd}
use Rattle.script.proofs.LineLaws.{and_parts, not_true, or_parts, starts}

pub later_none : (e : StatementEnd) → later 0 e ≡ e
later_none (Semicolon k) = let same : 0 + k ≡ k = omega arith in ap Semicolon same
later_none (LineEnd k) = let same : 0 + k ≡ k = omega arith in ap LineEnd same
later_none TextEnd = refl

pub later_both : (m n : ℕ) (e : StatementEnd) → later m (later n e) ≡ later (m + n) e
later_both m n (Semicolon k) = let same : m + (n + k) ≡ m + n + k = omega arith in ap Semicolon same
later_both m n (LineEnd k) = let same : m + (n + k) ≡ m + n + k = omega arith in ap LineEnd same
later_both m n TextEnd = refl

-- the scan continues past a byte at which nothing ends, and stops at one at which something does
stop_none : (i : ℕ) (o : Option StatementEnd) → option_map (later i) o ≡ None → o ≡ None
stop_none i None e = refl
stop_none i (Some s) e = absurd (cc)

stop_some : (i : ℕ) (o : Option StatementEnd) (end : StatementEnd) (more : StatementEnd) → Some end ≡ option_map (later i) o → end ≡ later i (unwrap_or o more)
stop_some i None end more e = absurd (cc)
stop_some i (Some s) end more e = cc

pub scan_goes_on : (text : List ℕ) (i : ℕ) (inside : Inside) → i < length text → end_of Neither text ≡ later i (end_of inside (drop i text)) → option_map (later i) (stop_at inside (get_or text i 0)) ≡ None → end_of Neither text ≡ later (i + 1) (end_of (after_byte inside (get_or text i 0) (opens_comment (drop i text))) (drop (i + 1) text))
scan_goes_on text i inside within so_far none =
    let b = get_or text i 0 in
    let rest = drop (i + 1) text in
    let at = starts text i within in
    let next = end_of (after_byte inside b (opens_comment (drop i text))) rest in
    so_far ∙ ap (λ (l : List ℕ). later i (end_of inside l)) at
    ∙ ap (λ o. later i (unwrap_or o (later 1 (end_of (after_byte inside b (opens_comment (b ∷ rest))) rest)))) (stop_none i (stop_at inside b) none)
    ∙ ap (λ (l : List ℕ). later i (later 1 (end_of (after_byte inside b (opens_comment l)) rest))) (sym at)
    ∙ later_both i 1 next

pub scan_stops : (text : List ℕ) (i : ℕ) (inside : Inside) (end : StatementEnd) → i < length text → end_of Neither text ≡ later i (end_of inside (drop i text)) → Some end ≡ option_map (later i) (stop_at inside (get_or text i 0)) → end ≡ end_of Neither text
scan_stops text i inside end within so_far found =
    let b = get_or text i 0 in
    let rest = drop (i + 1) text in
    stop_some i (stop_at inside b) end (later 1 (end_of (after_byte inside b (opens_comment (b ∷ rest))) rest)) found ∙ ap (λ (l : List ℕ). later i (end_of inside l)) (sym (starts text i within)) ∙ sym so_far

pub scan_ends : (text : List ℕ) (i : ℕ) (inside : Inside) → length text ≤ i → end_of Neither text ≡ later i (end_of inside (drop i text)) → TextEnd ≡ end_of Neither text
scan_ends text i inside past so_far = sym (so_far ∙ ap (λ (l : List ℕ). later i (end_of inside l)) (drop_all i text past))

-- what an end says of a text
abbrev pub Shape : List ℕ → StatementEnd → Type 0
Shape text (Semicolon n) = (front rest : List ℕ) × (text ≡ front ++ 59 ∷ rest) × IsWhole front (59 ∷ rest) × (n ≡ length front)
Shape text (LineEnd n) = (after : List ℕ) × EndsInLiteral text after × (n + length (10 ∷ after) ≡ length text)
Shape text TextEnd = IsWhole text [] ⊎ ((inside : List ℕ) × OpensLiteral text inside [])

pub whole_more : (p : Part) (front after : List ℕ) → StandsBefore p (front ++ after) → IsWhole front after → IsWhole (part_text p ++ front) after
whole_more p front after stands whole = (p ∷ whole.0, (front, refl, stands, whole.1))

opens_more : (p : Part) (text inside after : List ℕ) → StandsBefore p text → OpensLiteral text inside after → OpensLiteral (part_text p ++ text) inside after
opens_more p text inside after stands o = record {
  before = part_text p ++ o.before;
  split = ap (λ (l : List ℕ). part_text p ++ l) o.split ∙ sym (append_assoc (part_text p) o.before (39 ∷ (inside ++ after)));
  whole = whole_more p o.before (39 ∷ (inside ++ after)) (subst (StandsBefore p) o.split stands) o.whole;
  only = o.only;
}

-- a part more in front
shape_more : (p : Part) (text : List ℕ) (e : StatementEnd) → StandsBefore p text → Shape text e → Shape (part_text p ++ text) (later (length (part_text p)) e)
shape_more p text (Semicolon n) stands s =
    (part_text p ++ s.0, s.1, ap (λ (l : List ℕ). part_text p ++ l) s.2 ∙ sym (append_assoc (part_text p) s.0 (59 ∷ s.1)), whole_more p s.0 (59 ∷ s.1) (subst (StandsBefore p) s.2 stands) s.3, omega (arith, s.4, length-append (part_text p) s.0))
shape_more p text (LineEnd n) stands s =
    (s.0, (s.1.0, opens_more p text s.1.0 (10 ∷ s.0) stands s.1.1), omega (arith, s.2, length-append (part_text p) text))
shape_more p text TextEnd stands (inl whole) = inl (whole_more p text [] (subst (StandsBefore p) (sym (append-nil text)) stands) whole)
shape_more p text TextEnd stands (inr open_end) = inr (open_end.0, opens_more p text open_end.0 [] stands open_end.1)

-- what an end says of what is behind an opening quote
record Closed (text : List ℕ) (e : StatementEnd) : Type 0 where
  inside : List ℕ
  rest : List ℕ
  next : StatementEnd
  split : text ≡ inside ++ 39 ∷ rest
  only : IsTrue (list_all in_literal inside)
  is : e ≡ later (length inside + 1) next
  shape : Shape rest next

record Broken (text : List ℕ) (e : StatementEnd) : Type 0 where
  inside : List ℕ
  after : List ℕ
  split : text ≡ inside ++ 10 ∷ after
  only : IsTrue (list_all in_literal inside)
  is : e ≡ LineEnd (length inside)

record Unclosed (text : List ℕ) (e : StatementEnd) : Type 0 where
  only : IsTrue (list_all in_literal text)
  is : e ≡ TextEnd

abbrev InQuotes : List ℕ → StatementEnd → Type 0
InQuotes text e = Closed text e ⊎ (Broken text e ⊎ Unclosed text e)

-- and of what is behind the first hyphen of a comment
record InNote (text : List ℕ) (e : StatementEnd) : Type 0 where
  inside : List ℕ
  rest : List ℕ
  next : StatementEnd
  split : text ≡ inside ++ rest
  only : IsTrue (list_all in_comment inside)
  ends : EndsLine rest
  is : e ≡ later (length inside) next
  shape : Shape rest next

quote_opens : (bs : List ℕ) (e : StatementEnd) → InQuotes bs e → Shape (39 ∷ bs) (later 1 e)
quote_opens bs e (inl q) =
    let part = part_text (Quoted q.inside) in
    let text : part ++ q.rest ≡ 39 ∷ bs = ap (λ (l : List ℕ). 39 ∷ l) (append_assoc q.inside (39 ∷ []) q.rest ∙ sym q.split) in
    let len : length part ≡ 1 + (length q.inside + 1) = omega (arith, length-append q.inside (39 ∷ [])) in
    let end : later (length part) q.next ≡ later 1 e = ap (λ n. later n q.next) len ∙ sym (later_both 1 (length q.inside + 1) q.next) ∙ ap (later 1) (sym q.is) in
    subst (λ x. Shape (39 ∷ bs) x) end (subst (λ l. Shape l (later (length part) q.next)) text (shape_more (Quoted q.inside) q.rest q.next q.only q.shape))
quote_opens bs e (inr (inl q)) =
    subst (λ x. Shape (39 ∷ bs) (later 1 x)) (sym q.is) (q.after, (q.inside, record { before = []; split = ap (λ (l : List ℕ). 39 ∷ l) q.split; whole = ([], refl); only = q.only }), omega (arith, ap length q.split, length-append q.inside (10 ∷ q.after)))
quote_opens bs e (inr (inr q)) =
    subst (λ x. Shape (39 ∷ bs) (later 1 x)) (sym q.is) (inr (bs, record { before = []; split = ap (λ (l : List ℕ). 39 ∷ l) (sym (append-nil bs)); whole = ([], refl); only = q.only }))

note_so : (cs inside rest : List ℕ) (e next : StatementEnd) → 45 ∷ cs ≡ inside ++ rest → IsTrue (list_all in_comment inside) → EndsLine rest → e ≡ later (length inside) next → Shape rest next → Shape (45 ∷ 45 ∷ cs) (later 1 e)
note_so cs [] [] e next split only ends is shape = absurd (cc)
note_so cs [] (r ∷ rs) e next split only ends is shape = absurd (let same : r ≡ 45 = cc in let wrong : 45 ≡ 10 = sym same ∙ ends in omega (arith, wrong))
note_so cs (x ∷ xs) rest e next split only ends is shape =
    let same : xs ++ rest ≡ cs = cc in
    let len : 1 + (length (x ∷ xs)) ≡ length (part_text (Noted xs)) = omega arith in
    let end : later (length (part_text (Noted xs))) next ≡ later 1 e = ap (λ n. later n next) (sym len) ∙ sym (later_both 1 (length (x ∷ xs)) next) ∙ ap (later 1) (sym is) in
    subst (λ y. Shape (45 ∷ 45 ∷ cs) y) end (subst (λ (l : List ℕ). Shape (45 ∷ 45 ∷ l) (later (length (part_text (Noted xs))) next)) same (shape_more (Noted xs) rest next ((and_parts (in_comment x) (list_all in_comment xs) only).1, ends) shape))

note_opens : (b : ℕ) (bs : List ℕ) (e : StatementEnd) → opens_comment (b ∷ bs) ≡ true → InNote bs e → Shape (b ∷ bs) (later 1 e)
note_opens b [] e opens q = absurd (cc)
note_opens b (c ∷ cs) e opens q =
    let parts = and_parts (eqb b 45) (eqb c 45) opens in
    let first = eqb-true b 45 parts.0 in
    let second = eqb-true c 45 parts.1 in
    let shape = note_so cs q.inside q.rest e q.next (ap (λ x. x ∷ cs) (sym second) ∙ q.split) q.only q.ends q.is q.shape in
    subst (λ x. Shape (x ∷ c ∷ cs) (later 1 e)) (sym first) (subst (λ x. Shape (45 ∷ x ∷ cs) (later 1 e)) (sym second) shape)

pub feed_is_no_comment : (bs : List ℕ) → opens_comment (10 ∷ bs) ≡ false
feed_is_no_comment [] = refl
feed_is_no_comment (c ∷ cs) = refl

more_in_quotes : (b : ℕ) (bs : List ℕ) (e : StatementEnd) → in_literal b ≡ true → InQuotes bs e → InQuotes (b ∷ bs) (later 1 e)
more_in_quotes b bs e here (inl q) = inl (record {
  inside = b ∷ q.inside;
  rest = q.rest;
  next = q.next;
  split = ap (λ (l : List ℕ). b ∷ l) q.split;
  only = rw (here, q.only) refl;
  is = ap (later 1) q.is ∙ later_both 1 (length q.inside + 1) q.next ∙ ap (λ n. later n q.next) (omega arith);
  shape = q.shape;
})
more_in_quotes b bs e here (inr (inl q)) = inr (inl (record {
  inside = b ∷ q.inside;
  after = q.after;
  split = ap (λ (l : List ℕ). b ∷ l) q.split;
  only = rw (here, q.only) refl;
  is = ap (later 1) q.is ∙ ap LineEnd (omega arith);
}))
more_in_quotes b bs e here (inr (inr q)) = inr (inr (record { only = rw (here, q.only) refl; is = ap (later 1) q.is }))

more_in_note : (b : ℕ) (bs : List ℕ) (e : StatementEnd) → in_comment b ≡ true → InNote bs e → InNote (b ∷ bs) (later 1 e)
more_in_note b bs e here q = record {
  inside = b ∷ q.inside;
  rest = q.rest;
  next = q.next;
  split = ap (λ (l : List ℕ). b ∷ l) q.split;
  only = rw (here, q.only) refl;
  ends = q.ends;
  is = ap (later 1) q.is ∙ later_both 1 (length q.inside) q.next ∙ ap (λ n. later n q.next) (omega arith);
  shape = q.shape;
}

byte_more : (b : ℕ) (bs : List ℕ) (e : StatementEnd) → eqb b 39 ≡ false → eqb b 59 ≡ false → opens_comment (b ∷ bs) ≡ false → Shape bs e → Shape (b ∷ bs) (later 1 e)
byte_more b bs e quote semicolon opens shape = shape_more (Byte b) bs e ((rw (quote, semicolon) refl), opens) shape

-- what is read of a text is so, whatever its first byte stands in
record AllShapes (text : List ℕ) : Type 0 where
  outside : Shape text (end_of Neither text)
  quoted : InQuotes text (end_of Literal text)
  noted : InNote text (end_of Comment text)

outside_so : (b : ℕ) (bs : List ℕ) (s q o : Bool) → eqb b 59 ≡ s → eqb b 39 ≡ q → opens_comment (b ∷ bs) ≡ o → AllShapes bs → Shape (b ∷ bs) (end_of Neither (b ∷ bs))
outside_so b bs true q o e f g all = subst (λ x. Shape (x ∷ bs) (end_of Neither (x ∷ bs))) (sym (eqb-true b 59 e)) ([], bs, refl, ([], refl), refl)
outside_so b bs false true o e f g all = subst (λ x. Shape (x ∷ bs) (end_of Neither (x ∷ bs))) (sym (eqb-true b 39 f)) (quote_opens bs (end_of Literal bs) all.quoted)
outside_so b bs false false true e f g all = rw (e, f, g) (note_opens b bs (end_of Comment bs) g all.noted)
outside_so b bs false false false e f g all = rw (e, f, g) (byte_more b bs (end_of Neither bs) f e g all.outside)

quoted_so : (b : ℕ) (bs : List ℕ) (n q : Bool) → eqb b 10 ≡ n → eqb b 39 ≡ q → AllShapes bs → InQuotes (b ∷ bs) (end_of Literal (b ∷ bs))
quoted_so b bs true q e f all = subst (λ x. InQuotes (x ∷ bs) (end_of Literal (x ∷ bs))) (sym (eqb-true b 10 e)) (inr (inl (record { inside = []; after = bs; split = refl; only = refl; is = refl })))
quoted_so b bs false true e f all = subst (λ x. InQuotes (x ∷ bs) (end_of Literal (x ∷ bs))) (sym (eqb-true b 39 f)) (inl (record { inside = []; rest = bs; next = end_of Neither bs; split = refl; only = refl; is = refl; shape = all.outside }))
quoted_so b bs false false e f all = rw (e, f) (more_in_quotes b bs (end_of Literal bs) (rw (e, f) refl) all.quoted)

noted_so : (b : ℕ) (bs : List ℕ) (n : Bool) → eqb b 10 ≡ n → AllShapes bs → InNote (b ∷ bs) (end_of Comment (b ∷ bs))
noted_so b bs true e all = subst (λ x. InNote (x ∷ bs) (end_of Comment (x ∷ bs))) (sym (eqb-true b 10 e)) (record {
  inside = [];
  rest = 10 ∷ bs;
  next = later 1 (end_of Neither bs);
  split = refl;
  only = refl;
  ends = refl;
  is = sym (later_none (later 1 (end_of Neither bs)));
  shape = byte_more 10 bs (end_of Neither bs) refl refl (feed_is_no_comment bs) all.outside;
})
noted_so b bs false e all = rw e (more_in_note b bs (end_of Comment bs) (rw e refl) all.noted)

all_shapes : (text : List ℕ) → AllShapes text
all_shapes [] = record {
  outside = inl ([], refl);
  quoted = inr (inr (record { only = refl; is = refl }));
  noted = record { inside = []; rest = []; next = TextEnd; split = refl; only = refl; ends = tt; is = refl; shape = inl ([], refl) };
}
all_shapes (b ∷ bs) = let all = all_shapes bs in record {
  outside = outside_so b bs _ _ _ refl refl refl all;
  quoted = quoted_so b bs _ _ refl refl all;
  noted = noted_so b bs _ refl all;
}

-- where a statement is read to end, it does
pub read_is_so : (text : List ℕ) (e : StatementEnd) → end_of Neither text ≡ e → Shape text e
read_is_so text e is = subst (Shape text) is (all_shapes text).outside

literal_byte : (b : ℕ) (more : List ℕ) → in_literal b ≡ true → end_of Literal (b ∷ more) ≡ later 1 (end_of Literal more)
literal_byte b more here =
    let parts = or_parts (eqb b 39) (eqb b 10) (not_true (eqb b 39 || eqb b 10) here) in
    rw (parts.1, parts.0) refl

literal_read : (inside r : List ℕ) → IsTrue (list_all in_literal inside) → end_of Literal ((inside ++ 39 ∷ []) ++ r) ≡ later (length (inside ++ 39 ∷ [])) (end_of Neither r)
literal_read [] r only = refl
literal_read (b ∷ bs) r only =
    let parts = and_parts (in_literal b) (list_all in_literal bs) only in
    literal_byte b ((bs ++ 39 ∷ []) ++ r) parts.0 ∙ ap (later 1) (literal_read bs r parts.1) ∙ later_both 1 (length (bs ++ 39 ∷ [])) (end_of Neither r) ∙ ap (λ n. later n (end_of Neither r)) (omega arith)

feed_read : (b : ℕ) (bs : List ℕ) → b ≡ 10 → end_of Comment (b ∷ bs) ≡ end_of Neither (b ∷ bs)
feed_read b bs e = subst (λ x. end_of Comment (x ∷ bs) ≡ end_of Neither (x ∷ bs)) (sym e) (rw (feed_is_no_comment bs) refl)

comment_read : (inside r : List ℕ) → IsTrue (list_all in_comment inside) → EndsLine r → end_of Comment (inside ++ r) ≡ later (length inside) (end_of Neither r)
comment_read [] [] only ends = refl
comment_read [] (b ∷ bs) only ends = feed_read b bs ends ∙ sym (later_none (end_of Neither (b ∷ bs)))
comment_read (b ∷ bs) r only ends =
    let parts = and_parts (in_comment b) (list_all in_comment bs) only in
    rw (not_true (eqb b 10) parts.0) (ap (later 1) (comment_read bs r parts.1 ends) ∙ later_both 1 (length bs) (end_of Neither r) ∙ ap (λ n. later n (end_of Neither r)) (omega arith))

pub part_read : (p : Part) (r : List ℕ) → StandsBefore p r → end_of Neither (part_text p ++ r) ≡ later (length (part_text p)) (end_of Neither r)
part_read (Quoted inside) r stands = ap (later 1) (literal_read inside r stands) ∙ later_both 1 (length (inside ++ 39 ∷ [])) (end_of Neither r) ∙ ap (λ n. later n (end_of Neither r)) (omega arith)
part_read (Noted inside) r stands = ap (later 1) (ap (later 1) (comment_read inside r stands.0 stands.1) ∙ later_both 1 (length inside) (end_of Neither r)) ∙ later_both 1 (1 + length inside) (end_of Neither r) ∙ ap (λ n. later n (end_of Neither r)) (omega arith)
part_read (Byte b) r stands =
    let parts = or_parts (eqb b 39) (eqb b 59) (not_true (eqb b 39 || eqb b 59) stands.0) in
    rw (parts.1, parts.0, stands.1) refl

pub whole_read : (parts : List Part) (text after : List ℕ) → AreParts parts text after → end_of Neither (text ++ after) ≡ later (length text) (end_of Neither after)
whole_read [] text after are = ap (λ (l : List ℕ). end_of Neither (l ++ after)) are ∙ sym (later_none (end_of Neither after)) ∙ ap (λ (l : List ℕ). later (length l) (end_of Neither after)) (sym are)
whole_read (p ∷ ps) text after are =
    let part = part_text p in
    let len : length part + length are.0 ≡ length text = omega (arith, ap length are.1, length-append part are.0) in
    ap (λ (l : List ℕ). end_of Neither (l ++ after)) are.1 ∙ ap (end_of Neither) (append_assoc part are.0 after) ∙ part_read p (are.0 ++ after) are.2 ∙ ap (later (length part)) (whole_read ps are.0 after are.3) ∙ later_both (length part) (length are.0) (end_of Neither after) ∙ ap (λ n. later n (end_of Neither after)) len

-- a statement that ends is read to its semicolon
pub semicolon_read : (front rest : List ℕ) → IsWhole front (59 ∷ rest) → end_of Neither (front ++ 59 ∷ rest) ≡ Semicolon (length front)
semicolon_read front rest whole = whole_read whole.0 front (59 ∷ rest) whole.1 ∙ ap Semicolon (omega arith)

unclosed_read : (inside after : List ℕ) (e : StatementEnd) → IsTrue (list_all in_literal inside) → end_of Literal after ≡ e → end_of Literal (inside ++ after) ≡ later (length inside) e
unclosed_read [] after e only is = is ∙ sym (later_none e)
unclosed_read (b ∷ bs) after e only is =
    let parts = and_parts (in_literal b) (list_all in_literal bs) only in
    literal_byte b (bs ++ after) parts.0 ∙ ap (later 1) (unclosed_read bs after e parts.1 is) ∙ later_both 1 (length bs) e ∙ ap (λ n. later n e) (omega arith)

opens_read : (text inside after : List ℕ) (e : StatementEnd) (o : OpensLiteral text inside after) → end_of Literal after ≡ e → end_of Neither text ≡ later (length o.before + (1 + length inside)) e
opens_read text inside after e o is =
    ap (end_of Neither) o.split ∙ whole_read o.whole.0 o.before (39 ∷ (inside ++ after)) o.whole.1
    ∙ ap (λ x. later (length o.before) (later 1 x)) (unclosed_read inside after e o.only is)
    ∙ ap (later (length o.before)) (later_both 1 (length inside) e)
    ∙ later_both (length o.before) (1 + length inside) e

-- a line end in a literal is read
pub line_end_read : (text after : List ℕ) → EndsInLiteral text after → (n : ℕ) × (end_of Neither text ≡ LineEnd n) × (n + length (10 ∷ after) ≡ length text)
line_end_read text after ends =
    let o = ends.1 in
    let n = length o.before + (1 + length ends.0) in
    (n, opens_read text ends.0 (10 ∷ after) (LineEnd 0) o refl ∙ ap LineEnd (omega arith), omega (arith, ap length o.split, length-append o.before (39 ∷ (ends.0 ++ 10 ∷ after)), length-append ends.0 (10 ∷ after)))

-- a text without an end is read as one
pub open_end_read : (text : List ℕ) → IsWhole text [] ⊎ ((inside : List ℕ) × OpensLiteral text inside []) → end_of Neither text ≡ TextEnd
open_end_read text (inl whole) = ap (end_of Neither) (sym (append-nil text)) ∙ whole_read whole.0 text [] whole.1
open_end_read text (inr o) = opens_read text o.0 [] TextEnd o.1 refl
