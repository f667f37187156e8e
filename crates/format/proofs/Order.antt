-- The order of lines: a line without fault keeps a document orderly, and an orderly document's lines have no fault in turn.
use Prim.Native.Nat.{ℕ, suc, ◌+◌}
use mathlib.Core.Bool.{Bool, true, false, not, ◌&&◌, ◌||◌, So}
use mathlib.Core.List.{List, [], ◌∷◌, ◌++◌, map, append_assoc, append-nil, map-append}
use Rattle.std.specs.Prelude.{None as none, Some as some}
use mathlib.Core.Path.{◌≡◌, refl, sym, ap, ◌∙◌}
use mathlib.Core.Logic.{◌↔◌}
use native.Mathlib.Omega.{arith}
use native.Mathlib.Nat.{add-zero, zero-add}
use lib.ListN.{length, length-append}
use lib.Dec.{ltb, eqb}
use borrow.Author.Tests.{eqb-true, eq-eqb, not-true, not-false}
use Rattle.program.specs.Test.{pick}
use Rattle.program.specs.Each.{every}
use Rattle.program.specs.Program.{Program}
use Rattle.program.proofs.Test.{and_left, and_right, and_intro, or_neither}
use Rattle.format.specs.declared.Reason.TheVariants.{NotALine, AboveLimit, OutOfCount, NotRising}
use Rattle.format.specs.Document.{Entry, Claim, Document, Line, row, flow, comm, claim}
use Rattle.format.specs.Print.{row_lines, lines_of}
use Rattle.format.specs.Read.{present, out_of_order, above_limit, out_of_count, rising, not_rising, line_fault, add, no_lines}
use Rattle.format.specs.WellFormed.{entries_rise, orderly}
use Rattle.format.proofs.Rising.{every_append, every_left, every_right, every_one, every_head, every_tail, every_map, every_unmap, rising_snoc, rising_before, present_cases}
use Rattle.format.proofs.Lines.{Written}

-- ---- a line without fault

pub record Faultless (d : Document) (l : Line) : Type 0 where
  pub ordered : out_of_order d l ≡ false
  pub below : above_limit l ≡ false
  pub counted : out_of_count d l ≡ false
  pub rises : not_rising d l ≡ false

pub faultless_iff : (d : Document) (l : Line) → (line_fault d l ≡ none) ↔ Faultless d l
unfolding line_fault
faultless_iff d l = (go (out_of_order d l) (above_limit l) (out_of_count d l) (not_rising d l) refl refl refl refl, λ h. rw (h.ordered, h.below, h.counted, h.rises))
  where
    go : (a b c e : Bool) → out_of_order d l ≡ a → above_limit l ≡ b → out_of_count d l ≡ c → not_rising d l ≡ e
        → pick a (some NotALine) (pick b (some AboveLimit) (pick c (some OutOfCount) (pick e (some NotRising) none))) ≡ none → Faultless d l
    go true b c e p q r t h = let z : ◌≡◌ {A = ℕ} 0 1 = cc in absurd (omega arith)
    go false true c e p q r t h = let z : ◌≡◌ {A = ℕ} 0 1 = cc in absurd (omega arith)
    go false false true e p q r t h = let z : ◌≡◌ {A = ℕ} 0 1 = cc in absurd (omega arith)
    go false false false true p q r t h = let z : ◌≡◌ {A = ℕ} 0 1 = cc in absurd (omega arith)
    go false false false false p q r t h = record { ordered = p; below = q; counted = r; rises = t }

-- ---- documents that have been read so far

pub record Partly (d : Document) : Type 0 where
  pub numbers : So (every (λ l. not (above_limit l)) (lines_of d))
  pub flows : So (entries_rise d.flows)
  pub comms : So (entries_rise d.comms)
  pub claims : So (rising (map (λ (c : Claim). c.channel) d.claims))

five : (a b c d e : Bool) → So (a && b && c && d && e) → So a × So b × So c × So d × So e
five a b c d e h =
    let h₃ = and_left (a && b && c && d) e h in
    let h₂ = and_left (a && b && c) d h₃ in
    let h₁ = and_left (a && b) c h₂ in
    (and_left a b h₁, and_right a b h₁, and_right (a && b) c h₂, and_right (a && b && c) d h₃, and_right (a && b && c && d) e h)

pub orderly_iff : (d : Document) → So (orderly d) ↔ (So (present d.rows) × Partly d)
unfolding orderly
orderly_iff d = (λ h. let (p, n, f, c, k) = five _ _ _ _ _ h in (p, record { numbers = n; flows = f; comms = c; claims = k }), λ (h, k). rw (h, k.numbers, k.flows, k.comms, k.claims))

-- ---- one line more

pub row_lines-append : (r : ℕ) (xs ys : Program) → row_lines r (xs ++ ys) ≡ row_lines r xs ++ row_lines (r + length xs) ys
unfolding row_lines
row_lines-append r [] ys = ap (λ (n : ℕ). row_lines n ys) (sym (add-zero r))
row_lines-append r (x ∷ xs) ys =
    ap (λ (ls : List Line). row r x ∷ ls) (row_lines-append (suc r) xs ys ∙ ap (λ (n : ℕ). row_lines (suc r) xs ++ row_lines n ys) (omega arith))

-- the lines with one more, where no later section has begun
pub lines_add : (d : Document) (l : Line) → Faultless d l → lines_of (add d l) ≡ lines_of d ++ (l ∷ [])
unfolding lines_of add out_of_order out_of_count row_lines
lines_add d (row r x) h =
    let (fc, k) = or_neither (present d.flows || present d.comms) (present d.claims) h.ordered in
    let (f, c) = or_neither (present d.flows) (present d.comms) fc in
    let n : length d.rows ≡ r = sym (eqb-true r (length d.rows) (not-false (eqb r (length d.rows)) h.counted)) in
    rw (present_cases d.flows f, present_cases d.comms c, present_cases d.claims k)
    (simp (append-nil) (row_lines-append 0 d.rows (x ∷ []) ∙ ap (λ (m : ℕ). row_lines 0 d.rows ++ (row m x ∷ [])) (zero-add (length d.rows) ∙ n)))
lines_add d (flow e) h =
    let (c, k) = or_neither (present d.comms) (present d.claims) h.ordered in
    rw (present_cases d.comms c, present_cases d.claims k) (simp (append-nil, map-append flow d.flows (e ∷ []), append_assoc))
lines_add d (comm e) h = rw (present_cases d.claims h.ordered) (simp (append-nil, map-append comm d.comms (e ∷ []), append_assoc))
lines_add d (claim c) h = simp (map-append claim d.claims (c ∷ []), append_assoc)

more : (d : Document) (l : Line) → Partly d → Faultless d l → So (every (λ l. not (above_limit l)) (lines_of (add d l)))
more d l p h = rw (lines_add d l h) (every_append _ (lines_of d) (l ∷ []) p.numbers (every_one _ l (rw h.below)))

-- one more entry
entries_snoc : (es : List Entry) (e : Entry) → So (entries_rise es) → So (every (λ f. ltb f.key e.key) es && rising e.members) → So (present e.members) → So (entries_rise (es ++ (e ∷ [])))
unfolding entries_rise
entries_snoc es e h k p =
    let low : So (every (λ f. ltb f.key e.key) es) = search and_left in
    let rise : So (rising (map (λ (e : Entry). e.key) (es ++ (e ∷ [])))) =
    rw (map-append (λ (e : Entry). e.key) es (e ∷ [])) (rising_snoc (map (λ (e : Entry). e.key) es) e.key (search and_left) (every_map (λ n. ltb n e.key) (λ (e : Entry). e.key) es low)) in
    and_intro rise (every_append _ es (e ∷ []) (and_right (rising (map (λ (e : Entry). e.key) es)) _ h) (every_one _ e (and_intro p (and_right (every (λ f. ltb f.key e.key) es) _ k))))

pub add_partly : (d : Document) (l : Line) → Partly d → Written l → Faultless d l → Partly (add d l)
unfolding add not_rising
add_partly d (row r x) p w h = record { numbers = more d (row r x) p h; flows = p.flows; comms = p.comms; claims = p.claims }
add_partly d (flow e) p w h = record { numbers = more d (flow e) p h; flows = entries_snoc d.flows e p.flows (not-false _ h.rises) w; comms = p.comms; claims = p.claims }
add_partly d (comm e) p w h = record { numbers = more d (comm e) p h; flows = p.flows; comms = entries_snoc d.comms e p.comms (not-false _ h.rises) w; claims = p.claims }
add_partly d (claim c) p w h = record {
  numbers = more d (claim c) p h;
  flows = p.flows;
  comms = p.comms;
  claims = rw (map-append (λ (c : Claim). c.channel) d.claims (c ∷ []))
      (rising_snoc (map (λ (c : Claim). c.channel) d.claims) c.channel p.claims (every_map (λ n. ltb n c.channel) (λ (c : Claim). c.channel) d.claims (not-false _ h.rises)));
}

-- ---- the lines of an orderly document, in turn

-- the lines have no fault, each where those before it have been read, and make d' of d
pub data Leads : Document → List Line → Document → Type 0 where
  end : {d : Document} → Leads d [] d
  step : {d d' : Document} {l : Line} {ls : List Line} → Faultless d l → Leads (add d l) ls d' → Leads d (l ∷ ls) d'

-- a section of lines, each of which has no fault behind those before it
module _ {A : Type 0} (mk : A → Line) (doc : List A → Document) (adds : (es : List A) (e : A) → add (doc es) (mk e) ≡ doc (es ++ (e ∷ [])))
    (test : List A → Bool) (fine : (before after : List A) (e : A) → So (test (before ++ (e ∷ after))) → Faultless (doc before) (mk e)) where
  section : (before es : List A) (rest : List Line) (d' : Document) → So (test (before ++ es)) → Leads (doc (before ++ es)) rest d' → Leads (doc before) (map mk es ++ rest) d'
  section before [] rest d' t k = rw (append-nil) at k
  section before (e ∷ es) rest d' t k =
      let s : before ++ (e ∷ es) ≡ before ++ (e ∷ []) ++ es = sym (append_assoc before (e ∷ []) es) in
      step {d = doc before} {d' = d'} {ls = map mk es ++ rest} (fine before es e t) (rw (adds before e) (section (before ++ (e ∷ [])) es rest d' (rw s at t) (rw s at k)))

abbrev rows_only : Program → Document
rows_only p = record { rows = p; flows = []; comms = []; claims = [] }

rows_lead : (before xs : Program) (rest : List Line) (d' : Document) → So (every (λ l. not (above_limit l)) (row_lines (length before) xs))
    → Leads (rows_only (before ++ xs)) rest d' → Leads (rows_only before) (row_lines (length before) xs ++ rest) d'
unfolding row_lines add out_of_order out_of_count not_rising present
rows_lead before [] rest d' t k = rw (append-nil) at k
rows_lead before (x ∷ xs) rest d' t k =
    let s : before ++ (x ∷ xs) ≡ before ++ (x ∷ []) ++ xs = sym (append_assoc before (x ∷ []) xs) in
    let n : length (before ++ (x ∷ [])) ≡ suc (length before) = length-append before (x ∷ []) ∙ omega arith in
    step {d = rows_only before} {d' = d'} {l = row (length before) x}
    (record {
      ordered = refl;
      below = not-true _ (every_head _ (row (length before) x) (row_lines (suc (length before)) xs) t);
      counted = rw (eq-eqb (length before) (length before) refl);
      rises = refl;
    })
    (rw (n) at (rows_lead (before ++ (x ∷ [])) xs rest d' (rw (← n) at (every_tail _ (row (length before) x) (row_lines (suc (length before)) xs) t)) (rw s at k)))

-- an entry in the middle of a section: it is below the limit, and its key is above those before it
entry_fine : (mk : Entry → Line) (before after : List Entry) (e : Entry) → So (entries_rise (before ++ (e ∷ after)) && every (λ f. not (above_limit (mk f))) (before ++ (e ∷ after)))
    → (above_limit (mk e) ≡ false) × So (every (λ f. ltb f.key e.key) before && rising e.members)
unfolding entries_rise
entry_fine mk before after e t =
    let rise : So (entries_rise (before ++ (e ∷ after))) = and_left (entries_rise (before ++ (e ∷ after))) _ t in
    let ks : So (rising (map (λ (e : Entry). e.key) (before ++ (e ∷ after)))) = and_left _ _ rise in
    let shown : So (every (λ e. present e.members && rising e.members) (before ++ (e ∷ after))) = and_right (rising (map (λ (e : Entry). e.key) (before ++ (e ∷ after)))) _ rise in
    let here : So (present e.members && rising e.members) = every_head _ e after (every_right _ before (e ∷ after) shown) in (
      not-true _ (every_head _ e after (every_right _ before (e ∷ after) (and_right (entries_rise (before ++ (e ∷ after))) _ t))),
      and_intro (every_unmap (λ n. ltb n e.key) (λ (e : Entry). e.key) before (rising_before _ e.key _ (rw (map-append (λ (e : Entry). e.key) before (e ∷ after)) at ks)))
          (and_right (present e.members) _ here),
    )

pub document_leads : (d : Document) → So (orderly d) → Leads no_lines (lines_of d) d
unfolding no_lines lines_of add out_of_order out_of_count not_rising present
document_leads d o =
    let (p, h) = (orderly_iff d).0 o in
    let all = h.numbers in
    let after-rows = every_right _ (row_lines 0 d.rows) _ all in
    let After-Flows = every_right _ (map flow d.flows) _ after-rows in
    let after-comms = every_right _ (map comm d.comms) _ After-Flows in
    rows_lead [] d.rows _ d (every_left _ (row_lines 0 d.rows) _ all)
    (section flow (λ es. record { rows = d.rows; flows = es; comms = []; claims = [] }) (λ es e. refl)
    (λ es. entries_rise es && every (λ f. not (above_limit (flow f))) es)
    (λ before after e t. let (b, r) = entry_fine flow before after e t in record { ordered = refl; below = b; counted = rw p; rises = rw r })
    [] d.flows _ d (and_intro h.flows (every_unmap _ flow d.flows (every_left _ (map flow d.flows) _ after-rows)))
    (section comm (λ es. record { rows = d.rows; flows = d.flows; comms = es; claims = [] }) (λ es e. refl)
    (λ es. entries_rise es && every (λ f. not (above_limit (comm f))) es)
    (λ before after e t. let (b, r) = entry_fine comm before after e t in record { ordered = refl; below = b; counted = rw p; rises = rw r })
    [] d.comms _ d (and_intro h.comms (every_unmap _ comm d.comms (every_left _ (map comm d.comms) _ After-Flows)))
    (rw (← append-nil (map claim d.claims))
    (section claim (λ cs. record { rows = d.rows; flows = d.flows; comms = d.comms; claims = cs }) (λ cs c. refl)
    (λ cs. rising (map (λ (c : Claim). c.channel) cs) && every (λ f. not (above_limit (claim f))) cs) (λ before after c t. claim_fine p before after c t)
    [] d.claims [] d (and_intro h.claims (every_unmap _ claim d.claims after-comms)) end))))
  where
    claim_fine : So (present d.rows) → (before after : List Claim) (c : Claim)
        → So (rising (map (λ (c : Claim). c.channel) (before ++ (c ∷ after))) && every (λ f. not (above_limit (claim f))) (before ++ (c ∷ after)))
        → Faultless (record { rows = d.rows; flows = d.flows; comms = d.comms; claims = before }) (claim c)
    claim_fine p before after c t =
        let ks : So (rising (map (λ (c : Claim). c.channel) (before ++ (c ∷ after)))) = and_left _ _ t in
        record {
          ordered = refl;
          below = not-true _ (every_head _ c after (every_right _ before (c ∷ after) (and_right (rising (map (λ (c : Claim). c.channel) (before ++ (c ∷ after)))) _ t)));
          counted = rw p;
          rises = rw (every_unmap (λ n. ltb n c.channel) (λ (c : Claim). c.channel) before (rising_before _ c.channel _ (rw (map-append (λ (c : Claim). c.channel) before (c ∷ after)) at ks)));
        }
