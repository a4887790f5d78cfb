-- What is known of each statement that was read, or can't be.
use Rattle.std.proofs.Common.{◌≡◌, ◌≢◌, ℕ, Some, None, List, [], ◌∷◌, ◌++◌, map, refl, sym, ◌∙◌, ap, subst, arith, rules, append_assoc, append-nil}
use Rattle.php_first_tree.specs.Expression.{Expression, int, variable, group, times, plus, minus, Part, value, text, Command, assign, echo, inline, empty, Statement, part_view, statement_view, command_view}
use Rattle.php_first_tree.specs.declared.Part as trees_part
use Rattle.php_first_tree.specs.declared.Statement as trees
use Rattle.php_first_tokens.specs.declared.token.Lexeme.{Lexeme}
use Rattle.php_first_tokens.specs.declared.token.Lexeme.TheVariants.{Variable, Int, Text, Inline, Echo, Equals, Semicolon, Comma, Plus, Minus, Star, Open, Close}
use Rattle.php_first_tokens.specs.declared.token.Token.{Token}
use Rattle.php_first_parse.specs.Spelling.{sum, at_line, Spells, SpellsSum, SpellsPart, SpellsParts, SpellsCommand, IsSpelling}
use Rattle.php_first_parse.specs.Machine.{fresh, Target, to, part, Context, State, due, named, wants_part, told, wants, has, with_statement, part_context, step, run, read}
use Rattle.php_first_parse.specs.Answers.{HeadIsNot, Ends, PartEnds, Fails}
use Rattle.php_first_parse.proofs.Views.{map_push}
use Rattle.php_first_parse.proofs.ReadBack.{back}

-- a statement under way, with no open parenthesis
abbrev pub begin : List Statement → ℕ → Target → Context
begin done line target = record { done = done; line = line; target = target; outer = [] }

-- a whole sum of a statement is read
pub whole : (done : List Statement) (line : ℕ) (target : Target) (e : Expression) (from rest : List Token) → SpellsSum e from rest → HeadIsNot Star rest
    → run (Some (wants (begin done line target) fresh)) from ≡ run (Some (has (begin done line target) None e)) rest
whole done line target e from rest s ends = (back e).as_sum 128 from rest (begin done line target) s.grouped s.within s.spelled ends (omega arith)

-- ---- assignments

unassigned_step : (done : List Statement) (start k line : ℕ) (l : Lexeme) → l ≢ Equals → step (named done start k) line l ≡ None
unassigned_step done start k line Equals h = absurd (h refl)
unassigned_step done start k line (Variable j) h = refl
unassigned_step done start k line (Int j) h = refl
unassigned_step done start k line (Text j) h = refl
unassigned_step done start k line (Inline j) h = refl
unassigned_step done start k line Echo h = refl
unassigned_step done start k line Semicolon h = refl
unassigned_step done start k line Comma h = refl
unassigned_step done start k line Plus h = refl
unassigned_step done start k line Minus h = refl
unassigned_step done start k line Star h = refl
unassigned_step done start k line Open h = refl
unassigned_step done start k line Close h = refl

pub unassigned : (k : ℕ) (from : List Token) → HeadIsNot Equals from → (done : List Statement) (line : ℕ) → run (Some (named done line k)) from ≡ None
unassigned k [] h done line = refl
unassigned k (t ∷ from) h done line = ap (λ m. run m from) (unassigned_step done line k t.line t.lexeme h)

pub no_value : (k a : ℕ) (from behind : List Token) → from ≡ at_line Equals a ∷ behind → Fails sum 128 behind → (done : List Statement) (line : ℕ) → run (Some (named done line k)) from ≡ None
no_value k a from behind is h done line = ap (run (Some (named done line k))) is ∙ h (begin done line (to k)) (omega arith)

value_stuck_step : (done : List Statement) (start k : ℕ) (e : Expression) (line : ℕ) (l : Lexeme) → l ≢ Star → l ≢ Plus → l ≢ Minus → l ≢ Semicolon → step (has (begin done start (to k)) None e) line l ≡ None
value_stuck_step done start k e line Star s p m h = absurd (s refl)
value_stuck_step done start k e line Plus s p m h = absurd (p refl)
value_stuck_step done start k e line Minus s p m h = absurd (m refl)
value_stuck_step done start k e line Semicolon s p m h = absurd (h refl)
value_stuck_step done start k e line (Variable j) s p m h = refl
value_stuck_step done start k e line (Int j) s p m h = refl
value_stuck_step done start k e line (Text j) s p m h = refl
value_stuck_step done start k e line (Inline j) s p m h = refl
value_stuck_step done start k e line Echo s p m h = refl
value_stuck_step done start k e line Equals s p m h = refl
value_stuck_step done start k e line Comma s p m h = refl
value_stuck_step done start k e line Open s p m h = refl
value_stuck_step done start k e line Close s p m h = refl

value_stuck : (done : List Statement) (start k : ℕ) (e : Expression) (rest : List Token) → Ends sum rest → HeadIsNot Semicolon rest → run (Some (has (begin done start (to k)) None e)) rest ≡ None
value_stuck done start k e [] ends h = refl
value_stuck done start k e (t ∷ rest) ends h = ap (λ m. run m rest) (value_stuck_step done start k e t.line t.lexeme ends.0 ends.1.0 ends.1.1 h)

-- no semicolon ends an assignment
pub value_open : (k a : ℕ) (e : Expression) (from behind rest : List Token) → from ≡ at_line Equals a ∷ behind → SpellsSum e behind rest → Ends sum rest → HeadIsNot Semicolon rest
    → (done : List Statement) (line : ℕ) → run (Some (named done line k)) from ≡ None
value_open k a e from behind rest is s ends h done line =
    ap (run (Some (named done line k))) is ∙ whole done line (to k) e behind rest s ends.0 ∙ value_stuck done line k e rest ends h

pub assigned : (k a b : ℕ) (e : Expression) (from behind after rest : List Token) → from ≡ at_line Equals a ∷ behind → SpellsSum e behind after → after ≡ at_line Semicolon b ∷ rest
    → (line : ℕ) → SpellsCommand (assign k e) line (at_line (Variable k) line ∷ from) rest
assigned k a b e from behind after rest is s end line = (a, b, behind, ap (λ x. at_line (Variable k) line ∷ x) is, subst (SpellsSum e behind) end s)

-- ---- parts

-- a sum begins with no text, so that a part is due changes nothing for it
begins_value : (e : Expression) (from rest : List Token) → Spells e from rest → (done : List Statement) (line : ℕ) (ps : List Part)
    → run (Some (wants_part done line ps)) from ≡ run (Some (wants (part_context done line ps) fresh)) from
begins_value (int n) from rest s done line ps = ap (run (Some (wants_part done line ps))) s.1 ∙ sym (ap (run (Some (wants (part_context done line ps) fresh))) s.1)
begins_value (variable k) from rest s done line ps = ap (run (Some (wants_part done line ps))) s.1 ∙ sym (ap (run (Some (wants (part_context done line ps) fresh))) s.1)
begins_value (group e) from rest s done line ps = ap (run (Some (wants_part done line ps))) s.3 ∙ sym (ap (run (Some (wants (part_context done line ps) fresh))) s.3)
begins_value (times l r) from rest s done line ps = begins_value l from (at_line Star s.0 ∷ s.1) s.2 done line ps
begins_value (plus l r) from rest s done line ps = begins_value l from (at_line Plus s.0 ∷ s.1) s.2 done line ps
begins_value (minus l r) from rest s done line ps = begins_value l from (at_line Minus s.0 ∷ s.1) s.2 done line ps

-- behind a part
abbrev pub behind_part : List Statement → ℕ → List Part → Part → State
behind_part done line ps (value e) = has (part_context done line ps) None e
behind_part done line ps (text at) = told done line (ps ++ text at ∷ [])

-- a whole part is read
pub whole_part : (p : Part) (from rest : List Token) → SpellsPart p from rest → PartEnds p rest → (done : List Statement) (line : ℕ) (ps : List Part)
    → run (Some (wants_part done line ps)) from ≡ run (Some (behind_part done line ps p)) rest
whole_part (value e) from rest s ends done line ps = begins_value e from rest s.spelled done line ps ∙ whole done line (part ps) e from rest s ends.0
whole_part (text at) from rest s ends done line ps = ap (run (Some (wants_part done line ps))) s.1

comma_ends : (p : Part) (a : ℕ) (rest : List Token) → PartEnds p (at_line Comma a ∷ rest)
comma_ends (value e) a rest = ((λ h. search rules), ((λ h. search rules), (λ h. search rules)))
comma_ends (text at) a rest = tt

semicolon_ends : (p : Part) (a : ℕ) (rest : List Token) → PartEnds p (at_line Semicolon a ∷ rest)
semicolon_ends (value e) a rest = ((λ h. search rules), ((λ h. search rules), (λ h. search rules)))
semicolon_ends (text at) a rest = tt

comma_step : (p : Part) (done : List Statement) (start line : ℕ) (ps : List Part) → step (behind_part done start ps p) line Comma ≡ Some (wants_part done start (ps ++ p ∷ []))
comma_step (value e) done start line ps = refl
comma_step (text at) done start line ps = refl

semicolon_step : (p : Part) (done : List Statement) (start line : ℕ) (ps : List Part) → step (behind_part done start ps p) line Semicolon ≡ Some (with_statement done start (echo (ps ++ p ∷ [])))
semicolon_step (value e) done start line ps = refl
semicolon_step (text at) done start line ps = refl

value_part_stuck_step : (done : List Statement) (start : ℕ) (ps : List Part) (e : Expression) (line : ℕ) (l : Lexeme) → l ≢ Star → l ≢ Plus → l ≢ Minus → l ≢ Semicolon → l ≢ Comma
    → step (has (part_context done start ps) None e) line l ≡ None
value_part_stuck_step done start ps e line Star s p m h g = absurd (s refl)
value_part_stuck_step done start ps e line Plus s p m h g = absurd (p refl)
value_part_stuck_step done start ps e line Minus s p m h g = absurd (m refl)
value_part_stuck_step done start ps e line Semicolon s p m h g = absurd (h refl)
value_part_stuck_step done start ps e line Comma s p m h g = absurd (g refl)
value_part_stuck_step done start ps e line (Variable j) s p m h g = refl
value_part_stuck_step done start ps e line (Int j) s p m h g = refl
value_part_stuck_step done start ps e line (Text j) s p m h g = refl
value_part_stuck_step done start ps e line (Inline j) s p m h g = refl
value_part_stuck_step done start ps e line Echo s p m h g = refl
value_part_stuck_step done start ps e line Equals s p m h g = refl
value_part_stuck_step done start ps e line Open s p m h g = refl
value_part_stuck_step done start ps e line Close s p m h g = refl

text_stuck_step : (done : List Statement) (start : ℕ) (ps : List Part) (line : ℕ) (l : Lexeme) → l ≢ Semicolon → l ≢ Comma → step (told done start ps) line l ≡ None
text_stuck_step done start ps line Semicolon h g = absurd (h refl)
text_stuck_step done start ps line Comma h g = absurd (g refl)
text_stuck_step done start ps line Star h g = refl
text_stuck_step done start ps line Plus h g = refl
text_stuck_step done start ps line Minus h g = refl
text_stuck_step done start ps line (Variable j) h g = refl
text_stuck_step done start ps line (Int j) h g = refl
text_stuck_step done start ps line (Text j) h g = refl
text_stuck_step done start ps line (Inline j) h g = refl
text_stuck_step done start ps line Echo h g = refl
text_stuck_step done start ps line Equals h g = refl
text_stuck_step done start ps line Open h g = refl
text_stuck_step done start ps line Close h g = refl

part_stuck : (p : Part) (done : List Statement) (start : ℕ) (ps : List Part) (rest : List Token) → PartEnds p rest → HeadIsNot Semicolon rest → HeadIsNot Comma rest
    → run (Some (behind_part done start ps p)) rest ≡ None
part_stuck (value e) done start ps [] ends h g = refl
part_stuck (value e) done start ps (t ∷ rest) ends h g = ap (λ m. run m rest) (value_part_stuck_step done start ps e t.line t.lexeme ends.0 ends.1.0 ends.1.1 h g)
part_stuck (text at) done start ps [] ends h g = refl
part_stuck (text at) done start ps (t ∷ rest) ends h g = ap (λ m. run m rest) (text_stuck_step done start (ps ++ text at ∷ []) t.line t.lexeme h g)

-- neither a semicolon nor a comma stands behind a part
pub part_open : (p : Part) (from rest : List Token) → SpellsPart p from rest → PartEnds p rest → HeadIsNot Semicolon rest → HeadIsNot Comma rest
    → (done : List Statement) (line : ℕ) (ps : List Part) → run (Some (wants_part done line ps)) from ≡ None
part_open p from rest s ends h g done line ps = whole_part p from rest s ends done line ps ∙ part_stuck p done line ps rest ends h g

-- neither a text nor a sum stands where a part is due
no_value_step : (done : List Statement) (start : ℕ) (ps : List Part) (line : ℕ) (l : Lexeme) → ((at : ℕ) → l ≢ Text at)
    → step (wants_part done start ps) line l ≡ step (wants (part_context done start ps) fresh) line l
no_value_step done start ps line (Text j) h = absurd (h j refl)
no_value_step done start ps line (Variable j) h = refl
no_value_step done start ps line (Int j) h = refl
no_value_step done start ps line (Inline j) h = refl
no_value_step done start ps line Echo h = refl
no_value_step done start ps line Equals h = refl
no_value_step done start ps line Semicolon h = refl
no_value_step done start ps line Comma h = refl
no_value_step done start ps line Plus h = refl
no_value_step done start ps line Minus h = refl
no_value_step done start ps line Star h = refl
no_value_step done start ps line Open h = refl
no_value_step done start ps line Close h = refl

pub no_part : (l : Lexeme) (a : ℕ) (from behind : List Token) → ((at : ℕ) → l ≢ Text at) → from ≡ at_line l a ∷ behind → Fails sum 128 from
    → (done : List Statement) (line : ℕ) (ps : List Part) → run (Some (wants_part done line ps)) from ≡ None
no_part l a from behind other is h done line ps =
    ap (run (Some (wants_part done line ps))) is
    ∙ ap (λ m. run m behind) (no_value_step done line ps a l other)
    ∙ ap (run (Some (wants (part_context done line ps) fresh))) (sym is)
    ∙ h (part_context done line ps) (omega arith)

-- a part and the comma behind it are read
pub part_read : (parts now : List trees_part.Part) (new : trees_part.Part) (a : ℕ) (from after rest : List Token) → SpellsPart (part_view new) from after → after ≡ at_line Comma a ∷ rest → now ≡ parts ++ new ∷ []
    → (done : List Statement) (line : ℕ)
    → run (Some (wants_part done line (map part_view parts))) from ≡ run (Some (wants_part done line (map part_view now))) rest
part_read parts now new a from after rest s is grown done line =
    whole_part (part_view new) from (at_line Comma a ∷ rest) (subst (SpellsPart (part_view new) from) is s) (comma_ends (part_view new) a rest) done line (map part_view parts)
    ∙ ap (λ m. run m rest) (comma_step (part_view new) done line a (map part_view parts))
    ∙ ap (λ ps. run (Some (wants_part done line ps)) rest) (sym (ap (map part_view) grown ∙ map_push part_view parts new))

pub grown_by : {A B : Type 0} (f : A → B) (xs now : List A) (x : A) (more : List B) → now ≡ xs ++ x ∷ [] → map f now ++ more ≡ map f xs ++ f x ∷ more
grown_by f xs now x more grown =
    ap (λ l. l ++ more) (ap (map f) grown ∙ map_push f xs x) ∙ append_assoc (map f xs) (f x ∷ []) more

-- what parts spell, those before them and the rest of them
abbrev pub PartsFrom : List trees_part.Part → List Token → List Token → Type 0
PartsFrom parts from behind = (p : Part) (ps : List Part) (rest : List Token) → SpellsParts (p ∷ ps) behind rest → SpellsParts (map part_view parts ++ p ∷ ps) from rest

pub part_spells : (parts now : List trees_part.Part) (new : trees_part.Part) (a : ℕ) (from begun after behind : List Token) → PartsFrom parts from begun → SpellsPart (part_view new) begun after
    → after ≡ at_line Comma a ∷ behind → now ≡ parts ++ new ∷ [] → PartsFrom now from behind
part_spells parts now new a from begun after behind before s is grown p ps rest more =
    subst (λ xs. SpellsParts xs from rest) (sym (grown_by part_view parts now new (p ∷ ps) grown))
    (before (part_view new) (p ∷ ps) rest (a, behind, subst (SpellsPart (part_view new) begun) is s, more))

pub echoed : (parts now : List trees_part.Part) (new : trees_part.Part) (b : ℕ) (from begun after rest : List Token) → PartsFrom parts from begun → SpellsPart (part_view new) begun after
    → after ≡ at_line Semicolon b ∷ rest → now ≡ parts ++ new ∷ [] → (line : ℕ) → SpellsCommand (echo (map part_view now)) line (at_line Echo line ∷ from) rest
echoed parts now new b from begun after rest before s is grown line =
    let all : SpellsParts (map part_view parts ++ part_view new ∷ []) from (at_line Semicolon b ∷ rest) =
    before (part_view new) [] (at_line Semicolon b ∷ rest) (subst (SpellsPart (part_view new) begun) is s) in
    (b, from, refl, subst (λ xs. SpellsParts xs from (at_line Semicolon b ∷ rest)) (sym (ap (map part_view) grown ∙ map_push part_view parts new)) all)

-- ---- the machine reads the spelling of statements as these

back_parts : (ps before : List Part) (done : List Statement) (line b : ℕ) (from rest : List Token) → SpellsParts ps from (at_line Semicolon b ∷ rest)
    → run (Some (wants_part done line before)) from ≡ run (Some (with_statement done line (echo (before ++ ps)))) rest
back_parts [] before done line b from rest s = absurd s
back_parts (p ∷ []) before done line b from rest s =
    whole_part p from (at_line Semicolon b ∷ rest) s (semicolon_ends p b rest) done line before
    ∙ ap (λ m. run m rest) (semicolon_step p done line b before)
back_parts (p ∷ q ∷ ps) before done line b from rest s =
    whole_part p from (at_line Comma s.0 ∷ s.1) s.2 (comma_ends p s.0 s.1) done line before
    ∙ ap (λ m. run m s.1) (comma_step p done line s.0 before)
    ∙ back_parts (q ∷ ps) (before ++ p ∷ []) done line b s.1 rest s.3
    ∙ ap (λ xs. run (Some (with_statement done line (echo xs))) rest) (append_assoc before (p ∷ []) (q ∷ ps))

back_command : (command : Command) (line : ℕ) (done : List Statement) (from rest : List Token) → SpellsCommand command line from rest
    → run (Some (due done)) from ≡ run (Some (with_statement done line command)) rest
back_command (assign k e) line done from rest s =
    ap (run (Some (due done))) s.3 ∙ whole done line (to k) e s.2 (at_line Semicolon s.1 ∷ rest) s.4 (λ h. search rules)
back_command (echo ps) line done from rest s = ap (run (Some (due done))) s.2 ∙ back_parts ps [] done line s.0 s.1 rest s.3
back_command (inline at) line done from rest s = ap (run (Some (due done))) s
back_command empty line done from rest s = ap (run (Some (due done))) s

back_all : (ss done : List Statement) (tokens : List Token) → IsSpelling ss tokens → run (Some (due done)) tokens ≡ Some (done ++ ss)
back_all [] done tokens s = ap (run (Some (due done))) s ∙ ap Some (sym (append-nil done))
back_all (x ∷ ss) done tokens s =
    back_command x.command x.line done tokens s.0 s.1 ∙ back_all ss (done ++ x ∷ []) s.0 s.2 ∙ ap Some (append_assoc done (x ∷ []) ss)

pub read_back : (ss : List Statement) (tokens : List Token) → IsSpelling ss tokens → read tokens ≡ Some ss
read_back ss tokens s = back_all ss [] tokens s

-- ---- statements one behind the other

abbrev pub SpellsFrom : List trees.Statement → List Token → List Token → Type 0
SpellsFrom done tokens behind = (more : List Statement) → IsSpelling more behind → IsSpelling (map statement_view done ++ more) tokens

pub statement_spells : (done now : List trees.Statement) (new : trees.Statement) (first : Token) (tokens begun from behind : List Token) → SpellsFrom done tokens begun → begun ≡ first ∷ from
    → SpellsCommand (command_view new.action) new.line (first ∷ from) behind → now ≡ done ++ new ∷ [] → SpellsFrom now tokens behind
statement_spells done now new first tokens begun from behind before is s grown more p =
    subst (λ xs. IsSpelling xs tokens) (sym (grown_by statement_view done now new more grown))
    (before (statement_view new ∷ more) (behind, subst (λ x. SpellsCommand (command_view new.action) new.line x behind) (sym is) s, p))

pub statement_leads : (done now : List trees.Statement) (new : trees.Statement) (first : Token) (tokens begun from behind : List Token) → read tokens ≡ run (Some (due (map statement_view done))) begun
    → begun ≡ first ∷ from → SpellsCommand (command_view new.action) new.line (first ∷ from) behind → now ≡ done ++ new ∷ [] → read tokens ≡ run (Some (due (map statement_view now))) behind
statement_leads done now new first tokens begun from behind before is s grown =
    before ∙ ap (run (Some (due (map statement_view done)))) is ∙ back_command (command_view new.action) new.line (map statement_view done) (first ∷ from) behind s
    ∙ ap (λ xs. run (Some (due xs)) behind) (sym (ap (map statement_view) grown ∙ map_push statement_view done new))

pub none_spelled : (done : List Statement) (first : Token) (tokens begun from : List Token) → read tokens ≡ run (Some (due done)) begun → begun ≡ first ∷ from
    → run (step (due done) first.line first.lexeme) from ≡ None → (ss : List Statement) → IsSpelling ss tokens → ⊥
none_spelled done first tokens begun from leads is h ss s =
    let e : Some ss ≡ None = sym (read_back ss tokens s) ∙ leads ∙ ap (run (Some (due done))) is ∙ h in
    search rules

pub all_spelled : (done : List trees.Statement) (tokens behind : List Token) → SpellsFrom done tokens behind → behind ≡ [] → IsSpelling (map statement_view done) tokens
all_spelled done tokens behind before is = subst (λ xs. IsSpelling xs tokens) (append-nil (map statement_view done)) (before [] is)

pub no_others : (done : List Statement) (tokens behind : List Token) → read tokens ≡ run (Some (due done)) behind → behind ≡ [] → (ss : List Statement) → IsSpelling ss tokens → done ≡ ss
no_others done tokens behind leads is ss s =
    let e : Some done ≡ Some ss = sym (leads ∙ ap (run (Some (due done))) is) ∙ read_back ss tokens s in
    search rules

pub one_reading : (tokens : List Token) (these those : List Statement) → IsSpelling these tokens → IsSpelling those tokens → these ≡ those
one_reading tokens these those s o =
    let e : Some these ≡ Some those = sym (read_back these tokens s) ∙ read_back those tokens o in
    search rules
