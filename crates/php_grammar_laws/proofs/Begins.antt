-- What a machine has read begins the spelling of a proper tree, if each of its steps and its halting keep to that.
use Rattle.std.proofs.Common.{◌≡◌, Bool, true, false, Option, Some, None, List, [], ◌∷◌, ◌++◌, refl, sym, ◌∙◌, ap}
use Rattle.php_ast.specs.Symbol.{Symbol}
use Rattle.php_grammar.specs.Run.{either, if_some, ReadingOf, if_nothing, if_whole, or_halted, run_of}
use Rattle.php_grammar.specs.expression.Machine.{pick}
use Rattle.php_grammar_laws.proofs.Stops.{LeavesUnread}
use Rattle.php_grammar_laws.proofs.Appends.{Appends, in_front}

-- what stands in front of any symbols
abbrev pub Front : Type 0
Front = List Symbol → List Symbol

abbrev pub Same : Front → Front → Type 0
Same g f = (w : List Symbol) → g w ≡ f w

-- the front with a symbol more
abbrev pub with_one : Front → Symbol → Front
with_one f t w = f (t ∷ w)

-- behind a known symbol
pub next : (g f : Front) (t x : Symbol) → t ≡ x → Same g f → (w : List Symbol) → g (x ∷ w) ≡ f (t ∷ w)
next g f t x is same w = ap (λ u. g (u ∷ w)) (sym is) ∙ same (t ∷ w)

-- `P n f`: the state n stands behind the front f.
abbrev pub Leads : {M : Type 0} → (M → Front → Type 0) → Front → Option M → Type 0
Leads P f None = Unit {0}
Leads P f (Some n) = P n f

pub either_leads : {M : Type 0} (P : M → Front → Type 0) (f : Front) (o p : Option M) → Leads P f o → Leads P f p → Leads P f (either o p)
either_leads P f (Some n) p h g = h
either_leads P f None p h g = g

pub pick_leads : {M : Type 0} (P : M → Front → Type 0) (f : Front) (b : Bool) (o p : Option M) → (b ≡ true → Leads P f o) → (b ≡ false → Leads P f p) → Leads P f (pick b o p)
pick_leads P f true o p h g = h refl
pick_leads P f false o p h g = g refl

-- ---- a whole reading

-- The tree is spelled by what was read and is missing; what was read and what is left are all the symbols.
pub record Begins {A : Type 0} (good : A → List Symbol → Type 0) (f : Front) (w : List Symbol) (r : ReadingOf A) : Type 0 where
  pub done : List Symbol
  pub whole : w ≡ done ++ r.unread
  pub spelled : good r.tree (f (done ++ r.missing))

halts_here : {M A : Type 0} (stop : M → List Symbol → ReadingOf A) (good : A → List Symbol → Type 0) (P : M → Front → Type 0) → LeavesUnread M A stop
    → ((m : M) (f : Front) (w : List Symbol) → P m f → good (stop m w).tree (f (stop m w).missing)) → (m : M) (f : Front) (w : List Symbol) → P m f → Begins good f w (stop m w)
halts_here stop good P leaves halts m f w h = record { done = []; whole = sym (leaves m w); spelled = halts m f w h }

goes_by : {M A : Type 0} (step : M → Symbol → Option M) (stop : M → List Symbol → ReadingOf A) (good : A → List Symbol → Type 0) (P : M → Front → Type 0) → LeavesUnread M A stop
    → ((m : M) (f : Front) (w : List Symbol) → P m f → good (stop m w).tree (f (stop m w).missing)) → (o : Option M) (m : M) (f : Front) (t : Symbol) (w : List Symbol) → P m f → Leads P (with_one f t) o
    → ((n : M) → P n (with_one f t) → Begins good (with_one f t) w (run_of step stop n w)) → Begins good f (t ∷ w) (or_halted o (λ n. run_of step stop n w) (stop m (t ∷ w)))
goes_by step stop good P leaves halts None m f t w h leads below = halts_here stop good P leaves halts m f (t ∷ w) h
goes_by step stop good P leaves halts (Some n) m f t w h leads below =
    let b : Begins good (with_one f t) w (run_of step stop n w) = below n leads in
    record { done = t ∷ b.done; whole = ap (λ v. t ∷ v) b.whole; spelled = b.spelled }

pub begins_by : {M A : Type 0} (step : M → Symbol → Option M) (stop : M → List Symbol → ReadingOf A) (good : A → List Symbol → Type 0) (P : M → Front → Type 0) → LeavesUnread M A stop
    → ((m : M) (f : Front) (w : List Symbol) → P m f → good (stop m w).tree (f (stop m w).missing)) → ((m : M) (f : Front) (t : Symbol) → P m f → Leads P (with_one f t) (step m t))
    → (w : List Symbol) (m : M) (f : Front) → P m f → Begins good f w (run_of step stop m w)
begins_by step stop good P leaves halts steps [] m f h = halts_here stop good P leaves halts m f [] h
begins_by step stop good P leaves halts steps (t ∷ w) m f h =
    goes_by step stop good P leaves halts (step m t) m f t w h (steps m f t h) (λ n g. begins_by step stop good P leaves halts steps w n (with_one f t) g)

-- ---- a machine inside another

-- What is spelled by some symbols and by what is missing, in front of more.
pub front_ends : {A : Type 0} (spelled : A → Front) (a : A) (g : Front) (missing rest : List Symbol) → Appends (spelled a) → Appends g → spelled a [] ≡ g missing → spelled a rest ≡ g (missing ++ rest)
front_ends spelled a g missing rest s h is = in_front s rest ∙ ap (λ u. u ++ rest) is ∙ sym (h.at missing rest)

pub one_appends : {g : Front} (t : Symbol) → Appends g → Appends (with_one g t)
one_appends t h = record { at = λ v w. h.at (t ∷ v) w }

lent_by : {M N : Type 0} (P : M → Front → Type 0) (Q : Option N → Type 0) (o : Option M) (f : Front) (on : M → N) → Leads P f o → ((k : M) → P k f → Q (Some (on k))) → Q None → Q (if_some o (λ k. Some (on k)))
lent_by P Q None f on leads goes stuck = stuck
lent_by P Q (Some k) f on leads goes stuck = goes k leads

-- what an inner machine reads is lent by the outer one
pub lent_leads : {M N : Type 0} (step : M → Symbol → Option M) (P : M → Front → Type 0) (Q : Option N → Type 0) → ((m : M) (f : Front) (t : Symbol) → P m f → Leads P (with_one f t) (step m t))
    → (m : M) (g : Front) (t : Symbol) (on : M → N) → P m g → ((k : M) → P k (with_one g t) → Q (Some (on k))) → Q None → Q (if_some (step m t) (λ k. Some (on k)))
lent_leads step P Q steps m g t on h goes stuck = lent_by P Q (step m t) (with_one g t) on (steps m g t h) goes stuck

whole_by : {A N : Type 0} (good : A → List Symbol → Type 0) (Q : Option N → Type 0) (tree : A) (missing : List Symbol) (g : Front) (ended : A → Option N) → good tree (g missing) → ((a : A) → good a (g []) → Q (ended a)) → Q None
    → Q (if_some (if_nothing missing tree) ended)
whole_by good Q tree [] g ended h ends stuck = ends tree h
whole_by good Q tree (x ∷ missing) g ended h ends stuck = stuck

either_by : {M N : Type 0} (P : M → Front → Type 0) (Q : Option N → Type 0) (o : Option M) (p : Option N) (f : Front) (on : M → N) → Leads P f o → ((k : M) → P k f → Q (Some (on k))) → Q p → Q (either (if_some o (λ k. Some (on k))) p)
either_by P Q None p f on leads goes ends = ends
either_by P Q (Some k) p f on leads goes ends = goes k leads

-- A symbol goes on with what the inner machine reads, or ends it.
pub inner_leads : {M A N : Type 0} (step : M → Symbol → Option M) (stop : M → List Symbol → ReadingOf A) (good : A → List Symbol → Type 0) (P : M → Front → Type 0) (Q : Option N → Type 0)
    → ((m : M) (f : Front) (w : List Symbol) → P m f → good (stop m w).tree (f (stop m w).missing)) → ((m : M) (f : Front) (t : Symbol) → P m f → Leads P (with_one f t) (step m t))
    → (m : M) (g : Front) (t : Symbol) (on : M → N) (ended : A → Option N) → P m g → ((k : M) → P k (with_one g t) → Q (Some (on k))) → ((a : A) → good a (g []) → Q (ended a)) → Q None
    → Q (either (if_some (step m t) (λ k. Some (on k))) (if_some (if_whole (stop m [])) ended))
inner_leads step stop good P Q halts steps m g t on ended h goes ends stuck =
    either_by P Q (step m t) (if_some (if_whole (stop m [])) ended) (with_one g t) on (steps m g t h) goes
    (whole_by good Q (stop m []).tree (stop m []).missing g ended (halts m g [] h) ends stuck)
