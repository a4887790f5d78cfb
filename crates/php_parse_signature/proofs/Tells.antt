-- What whole walks say of the symbols read.
use Rattle.std.proofs.Common.{◌≡◌, ◌<◌, ℕ, ◌+◌, Option, Some, None, List, [], ◌∷◌, ◌++◌, take, length, get_or, refl, sym, ◌∙◌, ap, subst, arith, append_assoc}
use Rattle.std.proofs.lemmas.List.{append-nil}
use Rattle.php_ast.specs.Symbol.{Symbol}
use Rattle.php_ast.specs.statement.Tree.{empty, then_also}
use Rattle.php_ast.specs.declaration.Tree.{Type_of, Signature}
use Rattle.php_ast.specs.declaration.Spelling.{spell_signature}
use Rattle.php_ast.specs.declaration.Proper.{IsProperSignature}
use Rattle.php_ast.specs.declaration.Nesting.{signature_nests}
use Rattle.php_grammar.specs.Begins.{BeginsSignature}
use Rattle.php_grammar.specs.Run.{reading, or_halted}
use Rattle.php_grammar.specs.TooDeep.{taken}
use Rattle.php_grammar.specs.expression.Machine.{Nothing}
use Rattle.php_grammar.specs.declaration.SignatureMachine.{Params, SignatureState, due_signature, due_param, advance_signature, halt_signature, read_signature}
use Rattle.php_grammar.specs.declaration.Depth.{signature_depth_at, signature_depths_read}
use Rattle.php_grammar.specs.declaration.Laws.{ResultEnds, SpellsSignature}
use Rattle.php_grammar.proofs.declaration.SignatureBack.{signatures_read_back}
use Rattle.php_grammar.proofs.declaration.SignatureTrace.{signature_nesting}
use Rattle.php_parse_expression.proofs.Depths.{AllWithin, SinksAt}
use Rattle.php_parse_expression.proofs.Wholes.{cancel, take_front, within_most}
use Rattle.php_grammar_laws.specs.Walks.{whole, short, deep, walk_signature}
use Rattle.php_parse_signature.proofs.Begun.{begun_on, begun_halts, HaltsWell}
use Rattle.php_parse_signature.proofs.Walked.{run, depths, Reads, EndsIn, walks, begun_next, ends_whole, ends_short, ends_deep}

-- ---- halting

due_unread : (params : Params) (w : List Symbol) → (halt_signature (due_param params) w).unread ≡ w
due_unread empty w = refl
due_unread (then_also params p) w = refl

unread_all : (m : SignatureState) (w : List Symbol) → (halt_signature m w).unread ≡ w
unread_all (due_param params) w = due_unread params w
unread_all due_signature w = refl
unread_all _ w = refl

due_missing : (params : Params) (w : List Symbol) → (halt_signature (due_param params) w).missing ≡ (halt_signature (due_param params) []).missing
due_missing empty w = refl
due_missing (then_also params p) w = refl

missing_same : (m : SignatureState) (w : List Symbol) → (halt_signature m w).missing ≡ (halt_signature m []).missing
missing_same (due_param params) w = due_missing params w
missing_same due_signature w = refl
missing_same _ w = refl

-- ---- spelled signatures

nothing_behind : (result : Option (Type_of Nothing)) → ResultEnds result []
nothing_behind None = tt
nothing_behind (Some t) = tt

spelled_read : (s : Signature Nothing) (w : List Symbol) → SpellsSignature s w → read_signature w ≡ reading s [] []
spelled_read s w h = ap read_signature (sym h.1) ∙ signatures_read_back s [] h.0 (nothing_behind s.result)

-- the nesting of a spelled signature begins with that of the symbols read
begun_nests : (n : ℕ) (done : List Symbol) (to : SignatureState) (s : Signature Nothing) (more : List Symbol) → (r : Reads n due_signature done to) → SpellsSignature s (done ++ more)
    → signature_nests s 0 [] ≡ r.nesting ++ depths to more
begun_nests n done to s more r h = sym (signature_nesting s [] h.0 (nothing_behind s.result)) ∙ ap signature_depths_read h.1 ∙ r.counts more

-- ---- no more symbols begin a signature

no_more_by : (o : Option SignatureState) (to : SignatureState) (t : Symbol) (v : List Symbol) (s : Signature Nothing) → o ≡ None
    → or_halted o (λ x. run x v) (halt_signature to (t ∷ v)) ≡ reading s [] [] → ⊥
no_more_by None to t v s is h = let none : t ∷ v ≡ [] = sym (unread_all to (t ∷ v)) ∙ ap (λ r. r.unread) h in cc
no_more_by (Some x) to t v s is h = cc

no_more : (n : ℕ) (u : List Symbol) (to : SignatureState) (t : Symbol) (x : List Symbol) → (r : Reads n due_signature u to) → advance_signature to t ≡ None → BeginsSignature (u ++ t ∷ x) → ⊥
no_more n u to t x r stuck b =
    no_more_by (advance_signature to t) to t (x ++ b.rest) b.tree stuck
    (sym (r.leads (t ∷ (x ++ b.rest))) ∙ ap read_signature (sym (append_assoc u (t ∷ x) b.rest)) ∙ spelled_read b.tree ((u ++ t ∷ x) ++ b.rest) b.spelled)

-- ---- what was read

-- the reads of a walk, said of the symbols before those that are left
read_before : (n : ℕ) (m : SignatureState) (done u : List Symbol) (to : SignatureState) → done ≡ u → Reads n m done to → Reads n m u to
read_before n m done u to is r = subst (λ w. Reads n m w to) is r

done_is : (w done left u y : List Symbol) → w ≡ done ++ left → left ≡ y → w ≡ u ++ y → done ≡ u
done_is w done left u y split is is_split = cancel done u y (ap (λ z. done ++ z) (sym is) ∙ sym split ∙ is_split)

-- the shortest signature that the symbols begin
pub shortest : (n : ℕ) (u : List Symbol) (to : SignatureState) (w : List Symbol) → Reads n due_signature u to
    → HaltsWell (halt_signature to w).tree (u ++ (halt_signature to w).missing)
shortest n u to w r = begun_halts to w (λ z. u ++ z) (r.begins (λ z. z) (λ z. refl))

pub record WholeWalk (n : ℕ) (u y : List Symbol) (s : Signature Nothing) : Type 0 where
  pub spelled : SpellsSignature s u
  pub most : (t : Symbol) (v x : List Symbol) → y ≡ t ∷ v → BeginsSignature (u ++ t ∷ x) → ⊥
  pub shallow : (depth : ℕ) → n + depth ≡ 128 → AllWithin depth (signature_nests s 0 [])

pub whole_walk : (n : ℕ) (w u y : List Symbol) (s : Signature Nothing) → w ≡ u ++ y → walk_signature n due_signature w ≡ whole s y → WholeWalk n u y s
whole_walk n w u y s split h =
    let k = walks n due_signature w in
    let e = ends_whole n k.to k.left s y (subst (λ o. EndsIn n k.to k.left o) h k.ends) in
    let left_is : k.left ≡ y = sym (unread_all k.to k.left) ∙ e.unread in
    let r = read_before n due_signature k.done u k.to (done_is w k.done k.left u y k.split left_is split) k.reads in
    let b = shortest n u k.to k.left r in
    let spelled : SpellsSignature s u =
    (subst IsProperSignature e.tree b.proper, ap (λ x. spell_signature x []) (sym e.tree) ∙ b.spelled ∙ ap (λ z. u ++ z) e.missing ∙ append-nil u) in
    record {
      spelled = spelled;
      most = λ t v x is. no_more n u k.to t x r (e.stuck t v (left_is ∙ is));
      shallow = λ depth sum. subst (AllWithin depth)
          (sym (begun_nests n u k.to s [] r (spelled.0, spelled.1 ∙ sym (append-nil u)) ∙ append-nil r.nesting)) (within_most n depth r.nesting sum r.shallow);
    }

pub record ShortWalk (n : ℕ) (u y : List Symbol) : Type 0 where
  pub begins : BeginsSignature u
  pub most : (t : Symbol) (v x : List Symbol) → y ≡ t ∷ v → BeginsSignature (u ++ t ∷ x) → ⊥
  pub unspelled : (s : Signature Nothing) → SpellsSignature s u → ⊥
  pub shallow : (depth k : ℕ) (s : Signature Nothing) (more : List Symbol) → n + depth ≡ 128 → length u ≡ k → SpellsSignature s (u ++ more) → AllWithin depth (take k (signature_nests s 0 []))

pub short_walk : (n : ℕ) (w u y : List Symbol) → w ≡ u ++ y → walk_signature n due_signature w ≡ short y → ShortWalk n u y
short_walk n w u y split h =
    let k = walks n due_signature w in
    let e = ends_short n k.to k.left y (subst (λ o. EndsIn n k.to k.left o) h k.ends) in
    let left_is : k.left ≡ y = sym (unread_all k.to k.left) ∙ e.unread in
    let r = read_before n due_signature k.done u k.to (done_is w k.done k.left u y k.split left_is split) k.reads in
    let b = shortest n u k.to k.left r in
    let alone : read_signature u ≡ halt_signature k.to [] = ap read_signature (sym (append-nil u)) ∙ r.leads [] in
    record {
      begins = record { tree = (halt_signature k.to k.left).tree; rest = (halt_signature k.to k.left).missing; spelled = (b.proper, b.spelled) };
      most = λ t v x is. no_more n u k.to t x r (e.stuck t v (left_is ∙ is));
      unspelled = λ s spells. e.missing (missing_same k.to k.left ∙ ap (λ x. x.missing) (sym alone ∙ spelled_read s u spells));
      shallow = λ depth j s more sum len spells. subst (AllWithin depth)
          (sym (ap (take j) (begun_nests n u k.to s more r spells) ∙ take_front r.nesting (depths k.to more) j (r.count ∙ len))) (within_most n depth r.nesting sum r.shallow);
    }

first_behind : (ds es : List ℕ) (d k : ℕ) → length ds ≡ k → get_or (ds ++ d ∷ es) k 0 ≡ d
first_behind [] es d k is = ap (λ j. get_or (d ∷ es) j 0) (sym is)
first_behind (x ∷ ds) es d k is = ap (λ j. get_or (x ∷ (ds ++ d ∷ es)) j 0) (sym is) ∙ first_behind ds es d (length ds) refl

pub record DeepWalk (n : ℕ) (u : List Symbol) (t : Symbol) : Type 0 where
  pub begins : BeginsSignature (u ++ t ∷ [])
  pub sinks : (depth k : ℕ) (s : Signature Nothing) (more : List Symbol) → n + depth ≡ 128 → length u ≡ k → SpellsSignature s ((u ++ t ∷ []) ++ more) → SinksAt depth k (signature_nests s 0 [])

-- One symbol behind those that were read is taken, and nested too deep.
pub sunk_at : (n : ℕ) (u : List Symbol) (to next : SignatureState) (t : Symbol) → Reads n due_signature u to → advance_signature to t ≡ Some next → n < signature_depth_at to t → DeepWalk n u t
sunk_at n u to next t r goes under =
    let b = begun_halts next [] (λ z. u ++ (t ∷ z)) (begun_next (advance_signature to t) next (λ z. u ++ (t ∷ z)) goes (begun_on to t (λ z. u ++ z) (r.begins (λ z. z) (λ z. refl)))) in
    record {
      begins = record {
        tree = (halt_signature next []).tree;
        rest = (halt_signature next []).missing;
        spelled = (b.proper, b.spelled ∙ sym (append_assoc u (t ∷ []) (halt_signature next []).missing));
      };
      sinks = λ depth j s more sum len spells.
          let count : length r.nesting ≡ j = r.count ∙ len in
          let here : depths to (t ∷ more) ≡ signature_depth_at to t ∷ depths next more = ap (λ o. taken o (signature_depth_at to t) (λ x. depths x more)) goes in
          let all = begun_nests n u to s (t ∷ more) r (spells.0, spells.1 ∙ append_assoc u (t ∷ []) more) ∙ ap (λ z. r.nesting ++ z) here in (
            subst (AllWithin depth) (sym (ap (take j) all ∙ take_front r.nesting (signature_depth_at to t ∷ depths next more) j count)) (within_most n depth r.nesting sum r.shallow),
            omega (arith, ap (λ z. get_or z j 0) all, first_behind r.nesting (depths next more) (signature_depth_at to t) j count, under),
          );
    }

pub record Sunk (n : ℕ) (u y : List Symbol) : Type 0 where
  pub token : Symbol
  pub more : List Symbol
  pub is : y ≡ token ∷ more
  pub walked : DeepWalk n u token

pub deep_walk : (n : ℕ) (w u y : List Symbol) → w ≡ u ++ y → walk_signature n due_signature w ≡ deep y → Sunk n u y
deep_walk n w u y split h =
    let k = walks n due_signature w in
    let e = ends_deep n k.to k.left y (subst (λ o. EndsIn n k.to k.left o) h k.ends) in
    let r = read_before n due_signature k.done u k.to (done_is w k.done k.left u y k.split e.left_is split) k.reads in
    record { token = e.token; more = e.more; is = e.is; walked = sunk_at n u k.to e.next e.token r e.goes e.under }
