-- A message has one encoding.
use Rattle.std.proofs.Common.{zero, suc, ◌≡◌, ℕ, ◌==◌, ◌&&◌, Bool, true, false, List, [], ◌∷◌, ◌++◌, length, append_assoc, refl, sym, ap, ◌∙◌, subst, ◌⊎◌, inl, inr}
use Rattle.std.specs.Prelude.{nat_le}
use Rattle.std.specs.Int.{to_be_bytes, w16, w64}
use Rattle.std.specs.List.{flat_map, list_all}
use Rattle.std.proofs.lemmas.Bool.{eq-eqb, eqb-true}
use Rattle.iss_base.proofs.Lists.{and-true, both, is-eq}
use Rattle.iss_request.specs.Fields.{Good, IsBad, IsGrammar, IsReadAgain}
use Rattle.iss_request.specs.Formats.{is_signature, parse_signature, spell_value}
use Rattle.iss_request.specs.Parsing.{◌>>=◌, byte, such_that, times}
use Rattle.iss_request.proofs.OneSpelling.{done_good, signature_again, signature_parts}
use Rattle.iss_request.proofs.ParserLemmas.{block_again, block_parts, byte_again, byte_parts, done_parts, first_bad, test_failed, test_parts, test_passed, then_good, then_parts}
use Rattle.iss_request.specs.declared.ids.Slot.{Slot}
use Rattle.iss_request.specs.declared.requests.Value.{Value}
use Rattle.pbft_wire.specs.declared.messages.Certificate.{Certificate}
use Rattle.pbft_wire.specs.declared.messages.Change.{Change}
use Rattle.pbft_wire.specs.declared.messages.Message.{Message}
use Rattle.pbft_wire.specs.declared.messages.Body.{Body}
use Rattle.pbft_wire.specs.declared.messages.Body.TheVariants.{PrePrepare as Pre_prepare_body, Prepare as Prepare_body, Commit as Commit_body, ViewChange as View_change_body, NewView as New_view_body}
use Rattle.pbft_wire.specs.Signed.{PrePrepare, ViewChange, NewView, signed}
use Rattle.pbft_wire.specs.Certificates.{change_bytes, fits_change, fits_count, fits_slot, fits_value, fits_view}
use Rattle.pbft_wire.specs.Messages.{as_is, at_bytes, commit, fields_of, fits, fits_at, fits_signed, fits_changes, is_known, message_bytes, node_change_bytes, parse, parse_at, parse_node_change, node_of_change, fits_node_change, parse_new_view, parse_pre_prepare, parse_view_change, prepare, signed_bytes, spell}
use Rattle.iss_sb.proofs.Ascending.{AreText, IsExact, IsText, ascending-again, ascending-parts, in-front}
use Rattle.pbft_wire.proofs.Fields.{count-again, count-parts, slot-again, slot-parts, value-again, value-parts, view-again, view-parts}
use Rattle.pbft_wire.proofs.CertificateGrammar.{change-again, change-parts, counted-twice, fits_one, four, text_one}

-- ---- signatures of PrePrepares

pub sigs-again : (sigs : List (List ℕ)) (rest : List ℕ) → list_all is_signature sigs ≡ true →
    times (length sigs) parse_signature (flat_map as_is sigs ++ rest) ≡ Good sigs rest
unfolding times
sigs-again [] rest e = done_good [] rest
sigs-again (s ∷ sigs) rest e =
    let t = and-true (is_signature s) (list_all is_signature sigs) e in
    let tail : List ℕ = flat_map as_is sigs ++ rest in
    ap (times (length (s ∷ sigs)) parse_signature) (append_assoc s (flat_map as_is sigs) rest) ∙
    then_good _ _ _ tail rest s (s ∷ sigs) (signature_again s tail t.0)
    (then_good _ _ _ rest rest sigs (s ∷ sigs) (sigs-again sigs rest t.1) (done_good (s ∷ sigs) rest))

abbrev AreSigs : ℕ → List ℕ → List ℕ → List (List ℕ) → Type 0
AreSigs wanted bytes rest sigs = AreText (list_all is_signature sigs) (length sigs) wanted (flat_map as_is sigs) bytes rest

sigs-parts : (many : ℕ) (bytes rest : List ℕ) (sigs : List (List ℕ)) →
    times many parse_signature bytes ≡ Good sigs rest → AreSigs many bytes rest sigs
unfolding times
sigs-parts zero bytes rest sigs e =
    let d = done_parts [] sigs bytes rest e in
    subst (λ (z : List (List ℕ)). AreSigs 0 bytes rest z) d.0 (record { parts = d.1; fits = refl; counted = refl })
sigs-parts (suc many) bytes rest sigs e =
    let a = then_parts _ _ bytes rest sigs e in
    let b = then_parts _ _ a.mid rest sigs a.second in
    let d = done_parts (a.thing ∷ b.thing) sigs b.mid rest b.second in
    let first = signature_parts bytes a.mid a.thing a.first in
    let others = sigs-parts many a.mid b.mid b.thing b.first in
    subst (λ (z : List (List ℕ)). AreSigs (suc many) bytes rest z) d.0 (record {
      parts = first.parts ∙ in-front a.thing (others.parts ∙ in-front (flat_map as_is b.thing) d.1) ∙ sym (append_assoc a.thing (flat_map as_is b.thing) rest);
      fits = both _ _ first.shape others.fits;
      counted = ap suc others.counted;
    })

-- a Prepare or a Commit, by its constructor
record IsAt (make : ℕ → Slot → List ℕ → List ℕ → Message) (bytes rest : List ℕ) (msg : Message) : Type 0 where
  pub view : ℕ
  pub slot : Slot
  pub digest : List ℕ
  pub sig : List ℕ
  pub is : make view slot digest sig ≡ msg
  pub fits : fits_at view slot.0 digest sig ≡ true
  pub parts : bytes ≡ at_bytes view slot.0 (digest ++ sig) ++ rest

at-parts : (make : ℕ → Slot → List ℕ → List ℕ → Message) (bytes rest : List ℕ) (msg : Message) →
    parse_at make bytes ≡ Good msg rest → IsAt make bytes rest msg
unfolding parse_at
at-parts make bytes rest msg e =
    let a = then_parts _ _ bytes rest msg e in
    let b = then_parts _ _ a.mid rest msg a.second in
    let c = then_parts _ _ b.mid rest msg b.second in
    let d = then_parts _ _ c.mid rest msg c.second in
    let ends = done_parts (make a.thing (record { 0 = b.thing }) c.thing d.thing) msg d.mid rest d.second in
    let view = view-parts bytes a.mid a.thing a.first in
    let slot = slot-parts a.mid b.mid b.thing b.first in
    let piece = block_parts 32 b.mid c.mid c.thing c.first in
    let sig = signature_parts c.mid d.mid d.thing d.first in
    record {
      view = a.thing;
      slot = record { 0 = b.thing };
      digest = c.thing;
      sig = d.thing;
      is = ends.0;
      fits = both _ _ view.fits (both _ _ slot.fits (both _ _ (eq-eqb (length c.thing) 32 piece.len) sig.shape));
      parts = view.parts ∙ in-front (to_be_bytes w16 a.thing) (slot.parts ∙ in-front (to_be_bytes w64 b.thing) (piece.parts ∙ in-front c.thing (sig.parts ∙ in-front d.thing ends.1))) ∙ sym (four (to_be_bytes w16 a.thing) (to_be_bytes w64 b.thing) c.thing d.thing rest);
    }

at-again : (make : ℕ → Slot → List ℕ → List ℕ → Message) (v : ℕ) (slot : Slot) (x sig rest : List ℕ) →
    fits_at v slot.0 x sig ≡ true → parse_at make (at_bytes v slot.0 (x ++ sig) ++ rest) ≡ Good (make v slot x sig) rest
unfolding parse_at
at-again make v slot x sig rest e =
    let msg : Message = make v slot x sig in
    let a = and-true (fits_view v) (fits_slot slot.0 && ((length x == 32) && is_signature sig)) e in
    let b = and-true (fits_slot slot.0) ((length x == 32) && is_signature sig) a.1 in
    let c = and-true (length x == 32) (is_signature sig) b.1 in
    let after_value : List ℕ = sig ++ rest in
    let after_slot : List ℕ = x ++ after_value in
    let after_view : List ℕ = to_be_bytes w64 slot.0 ++ after_slot in
    ap (parse_at make) (four (to_be_bytes w16 v) (to_be_bytes w64 slot.0) x sig rest) ∙
    then_good _ _ _ after_view rest v msg (view-again v after_view a.0)
    (then_good _ _ _ after_slot rest slot.0 msg (slot-again slot.0 after_slot b.0)
    (then_good _ _ _ after_value rest x msg (block_again x after_value 32 (eqb-true (length x) 32 c.0))
    (then_good _ _ _ rest rest sig msg (signature_again sig rest c.1) (done_good msg rest))))

module _ (version : ℕ) where
  -- ---- lists of ViewChanges

  node_change-again : (x : Change) (from : ℕ) (rest : List ℕ) → fits_node_change version from x ≡ true →
      parse_node_change version from (node_change_bytes version x ++ rest) ≡ Good x rest
  unfolding parse_node_change
  node_change-again x from rest e =
      let u = and-true (nat_le from x.node.0) (fits_one version x) e in
      then_good _ _ _ (text_one version x ++ rest) rest x.node.0 x (test_passed (λ k. nat_le from k) byte _ _ x.node.0 (byte_again x.node.0 (text_one version x ++ rest)) u.0) (change-again version x rest u.1)

  node_change-parts : (from : ℕ) (bytes rest : List ℕ) (x : Change) →
      parse_node_change version from bytes ≡ Good x rest →
      IsText (fits_node_change version from x) (node_change_bytes version x) bytes rest
  unfolding parse_node_change
  node_change-parts from bytes rest x e =
      let a = then_parts _ _ bytes rest x e in
      let node = test_parts (λ k. nat_le from k) byte bytes a.mid a.thing a.first in
      let change = change-parts version a.thing a.mid rest x a.second in
      let same : a.thing ≡ x.node.0 = sym change.by in
      record {
        parts = byte_parts bytes a.mid a.thing node.0 ∙ ap (λ (n : ℕ). n ∷ a.mid) same ∙ ap (λ (z : List ℕ). x.node.0 ∷ z) change.parts;
        fits = both _ _ (subst (λ (n : ℕ). nat_le from n ≡ true) same node.1) change.fits;
      }

  node_change-exact : IsExact (parse_node_change version) (fits_node_change version) (node_change_bytes version)
  node_change-exact = record { again = node_change-again; parts = node_change-parts }

  -- ---- the five messages, each after its number

  abbrev IsMessage : ℕ → List ℕ → List ℕ → Message → Type 0
  IsMessage kind bytes rest msg = IsText (fits version msg) (message_bytes version msg) (kind ∷ bytes) rest

  pre_prepare-parts : (bytes rest : List ℕ) (msg : Message) → parse_pre_prepare version bytes ≡ Good msg rest →
      IsMessage 1 bytes rest msg
  unfolding parse_pre_prepare
  pre_prepare-parts bytes rest msg e =
      let a = then_parts _ _ bytes rest msg e in
      let b = then_parts _ _ a.mid rest msg a.second in
      let c = then_parts _ _ b.mid rest msg b.second in
      let d = then_parts _ _ c.mid rest msg c.second in
      let ends = done_parts (PrePrepare a.thing (record { 0 = b.thing }) c.thing d.thing) msg d.mid rest d.second in
      let view = view-parts bytes a.mid a.thing a.first in
      let slot = slot-parts a.mid b.mid b.thing b.first in
      let value = value-parts version b.mid c.mid c.thing c.first in
      let sig = signature_parts c.mid d.mid d.thing d.first in
      subst (λ (z : Message). IsMessage 1 bytes rest z) ends.0 (record {
        parts = ap (λ (z : List ℕ). 1 ∷ z) (view.parts ∙ in-front (to_be_bytes w16 a.thing) (slot.parts ∙ in-front (to_be_bytes w64 b.thing) (value.parts ∙ in-front (spell_value version c.thing) (sig.parts ∙ in-front d.thing ends.1))) ∙ sym (four (to_be_bytes w16 a.thing) (to_be_bytes w64 b.thing) (spell_value version c.thing) d.thing rest));
        fits = both _ _ view.fits (both _ _ slot.fits (both _ _ value.fits sig.shape));
      })

  pre_prepare-again : (v : ℕ) (slot : Slot) (x : Value) (sig rest : List ℕ) → fits version (PrePrepare v slot x sig) ≡ true → parse_pre_prepare version (at_bytes v slot.0 (spell_value version x ++ sig) ++ rest) ≡ Good (PrePrepare v slot x sig) rest
  unfolding parse_pre_prepare
  pre_prepare-again v slot x sig rest e =
      let msg : Message = PrePrepare v slot x sig in
      let a = and-true (fits_view v) (fits_slot slot.0 && (fits_value version x && is_signature sig)) e in
      let b = and-true (fits_slot slot.0) (fits_value version x && is_signature sig) a.1 in
      let c = and-true (fits_value version x) (is_signature sig) b.1 in
      let after_value : List ℕ = sig ++ rest in
      let after_slot : List ℕ = spell_value version x ++ after_value in
      let after_view : List ℕ = to_be_bytes w64 slot.0 ++ after_slot in
      ap (parse_pre_prepare version) (four (to_be_bytes w16 v) (to_be_bytes w64 slot.0) (spell_value version x) sig rest) ∙
      then_good _ _ _ after_view rest v msg (view-again v after_view a.0)
      (then_good _ _ _ after_slot rest slot.0 msg (slot-again slot.0 after_slot b.0)
      (then_good _ _ _ after_value rest x msg (value-again version x after_value c.0)
      (then_good _ _ _ rest rest sig msg (signature_again sig rest c.1) (done_good msg rest))))

  prepare-parts : (bytes rest : List ℕ) (msg : Message) → parse_at prepare bytes ≡ Good msg rest →
      IsMessage 2 bytes rest msg
  prepare-parts bytes rest msg e =
      let r = at-parts prepare bytes rest msg e in
      subst (λ (z : Message). IsMessage 2 bytes rest z) r.is (record { parts = ap (λ (z : List ℕ). 2 ∷ z) r.parts; fits = r.fits })

  commit-parts : (bytes rest : List ℕ) (msg : Message) → parse_at commit bytes ≡ Good msg rest →
      IsMessage 3 bytes rest msg
  commit-parts bytes rest msg e =
      let r = at-parts commit bytes rest msg e in
      subst (λ (z : Message). IsMessage 3 bytes rest z) r.is (record { parts = ap (λ (z : List ℕ). 3 ∷ z) r.parts; fits = r.fits })

  change_message-parts : (bytes rest : List ℕ) (msg : Message) → parse_view_change version bytes ≡ Good msg rest →
      IsMessage 4 bytes rest msg
  unfolding parse_view_change
  change_message-parts bytes rest msg e =
      let a = then_parts _ _ bytes rest msg e in
      let ends = done_parts (ViewChange a.thing.view a.thing.certificates a.thing.sig) msg a.mid rest a.second in
      let change = change-parts version 0 bytes a.mid a.thing a.first in
      subst (λ (z : Message). IsMessage 4 bytes rest z) ends.0 (record {
        parts = ap (λ (z : List ℕ). 4 ∷ z) (change.parts ∙ in-front (text_one version a.thing) ends.1);
        fits = change.fits;
      })

  change_message-again : (v : ℕ) (cs : List Certificate) (sig rest : List ℕ) → fits_change version v cs sig ≡ true →
      parse_view_change version (change_bytes version v cs sig ++ rest) ≡ Good (ViewChange v cs sig) rest
  unfolding parse_view_change
  change_message-again v cs sig rest e =
      let x : Change = record { node = record { 0 = 0 }; view = v; certificates = cs; sig = sig } in
      then_good _ _ _ rest rest x (ViewChange v cs sig) (change-again version x rest e) (done_good (ViewChange v cs sig) rest)

  new_view-parts : (bytes rest : List ℕ) (msg : Message) → parse_new_view version bytes ≡ Good msg rest →
      IsMessage 5 bytes rest msg
  unfolding parse_new_view
  new_view-parts bytes rest msg e =
      let a = then_parts _ _ bytes rest msg e in
      let b = then_parts _ _ a.mid rest msg a.second in
      let c = then_parts _ _ b.mid rest msg b.second in
      let d = then_parts _ _ c.mid rest msg c.second in
      let f = then_parts _ _ d.mid rest msg d.second in
      let g = then_parts _ _ f.mid rest msg f.second in
      let ends = done_parts (NewView a.thing c.thing f.thing g.thing) msg g.mid rest g.second in
      let view = view-parts bytes a.mid a.thing a.first in
      let many = count-parts a.mid b.mid b.thing b.first in
      let all = ascending-parts (parse_node_change version) node_of_change (fits_node_change version) (node_change_bytes version) node_change-exact b.thing 0 b.mid c.mid c.thing c.first in
      let more = count-parts c.mid d.mid d.thing d.first in
      let sigs = sigs-parts d.thing d.mid f.mid f.thing f.first in
      let sig = signature_parts f.mid g.mid g.thing g.first in
      let text : List ℕ = flat_map (node_change_bytes version) c.thing in
      let signed : List ℕ = flat_map as_is f.thing in
      let same : b.thing ≡ length c.thing = sym all.counted in
      let alike : d.thing ≡ length f.thing = sym sigs.counted in
      let tail : c.mid ≡ length f.thing ∷ (signed ++ (g.thing ++ rest)) = more.parts ∙ ap (λ (n : ℕ). n ∷ d.mid) alike ∙ ap (λ (z : List ℕ). length f.thing ∷ z) (sigs.parts ∙ in-front signed (sig.parts ∙ in-front g.thing ends.1)) in
      let behind : a.mid ≡ length c.thing ∷ (text ++ (length f.thing ∷ (signed ++ (g.thing ++ rest)))) = many.parts ∙ ap (λ (n : ℕ). n ∷ b.mid) same ∙ ap (λ (z : List ℕ). length c.thing ∷ z) (all.parts ∙ in-front text tail) in
      let low : fits_count (length c.thing) ≡ true = subst (λ (n : ℕ). fits_count n ≡ true) same many.fits in
      let few : fits_count (length f.thing) ≡ true = subst (λ (n : ℕ). fits_count n ≡ true) alike more.fits in
      subst (λ (z : Message). IsMessage 5 bytes rest z) ends.0 (record {
        parts = ap (λ (z : List ℕ). 5 ∷ z) (view.parts ∙ in-front (to_be_bytes w16 a.thing) behind ∙ sym (counted-twice (to_be_bytes w16 a.thing) (length c.thing) text (length f.thing) signed g.thing rest));
        fits = both _ _ view.fits (both _ _ (both _ _ low all.fits) (both _ _ (both _ _ few sigs.fits) sig.shape));
      })

  new_view-again : (v : ℕ) (xs : List Change) (sigs : List (List ℕ)) (sig rest : List ℕ) → fits version (NewView v xs sigs sig) ≡ true → parse_new_view version ((to_be_bytes w16 v ++ (length xs ∷ (flat_map (node_change_bytes version) xs ++ (length sigs ∷ (flat_map as_is sigs ++ sig))))) ++ rest) ≡ Good (NewView v xs sigs sig) rest
  unfolding parse_new_view
  new_view-again v xs sigs sig rest e =
      let msg : Message = NewView v xs sigs sig in
      let a = and-true (fits_view v) ((fits_count (length xs) && fits_changes version 0 xs) && ((fits_count (length sigs) && list_all is_signature sigs) && is_signature sig)) e in
      let b = and-true (fits_count (length xs) && fits_changes version 0 xs) ((fits_count (length sigs) && list_all is_signature sigs) && is_signature sig) a.1 in
      let c = and-true (fits_count (length xs)) (fits_changes version 0 xs) b.0 in
      let d = and-true (fits_count (length sigs) && list_all is_signature sigs) (is_signature sig) b.1 in
      let f = and-true (fits_count (length sigs)) (list_all is_signature sigs) d.0 in
      let last : List ℕ = sig ++ rest in
      let signed : List ℕ = flat_map as_is sigs ++ last in
      let second : List ℕ = length sigs ∷ signed in
      let all : List ℕ = flat_map (node_change_bytes version) xs ++ second in
      ap (parse_new_view version) (counted-twice (to_be_bytes w16 v) (length xs) (flat_map (node_change_bytes version) xs) (length sigs) (flat_map as_is sigs) sig rest) ∙
      then_good _ _ _ (length xs ∷ all) rest v msg (view-again v (length xs ∷ all) a.0)
      (then_good _ _ _ all rest (length xs) msg (count-again (length xs) all c.0)
      (then_good _ _ _ second rest xs msg (ascending-again (parse_node_change version) node_of_change (fits_node_change version) (node_change_bytes version) node_change-exact xs 0 second c.1)
      (then_good _ _ _ signed rest (length sigs) msg (count-again (length sigs) signed f.0)
      (then_good _ _ _ last rest sigs msg (sigs-again sigs last f.1)
      (then_good _ _ _ rest rest sig msg (signature_again sig rest d.1) (done_good msg rest))))))

  -- ---- the message's number

  parse-is : parse version ≡ (such_that is_known byte >>= fields_of version)
  unfolding parse
  parse-is = refl

  to-kind : (n k : ℕ) (bytes rest : List ℕ) (msg : Message) → (n == k) ≡ true → IsMessage k bytes rest msg →
      IsMessage n bytes rest msg
  to-kind n k bytes rest msg h t = subst (λ (z : ℕ). IsMessage z bytes rest msg) (sym (is-eq n k h)) t

  kind-parts : (n : ℕ) (bytes rest : List ℕ) (msg : Message) → is_known n ≡ true →
      fields_of version n bytes ≡ Good msg rest → IsMessage n bytes rest msg
  kind-parts n bytes rest msg k e = first (n == 1) refl
    where
      fifth : (t : Bool) → (n == 4) ≡ t → (n == 1) ≡ false → (n == 2) ≡ false → (n == 3) ≡ false →
          IsMessage n bytes rest msg
      fifth true q a b c = let r : parse_view_change version bytes ≡ Good msg rest = rw (a, b, c, q) at e in to-kind n 4 bytes rest msg q (change_message-parts bytes rest msg r)
      fifth false q a b c =
          let last : (n == 5) ≡ true = rw (a, b, c, q) at k in
          let r : parse_new_view version bytes ≡ Good msg rest = rw (a, b, c, q) at e in
          to-kind n 5 bytes rest msg last (new_view-parts bytes rest msg r)

      third : (t : Bool) → (n == 3) ≡ t → (n == 1) ≡ false → (n == 2) ≡ false → IsMessage n bytes rest msg
      third true q a b = let r : parse_at commit bytes ≡ Good msg rest = rw (a, b, q) at e in to-kind n 3 bytes rest msg q (commit-parts bytes rest msg r)
      third false q a b = fifth (n == 4) refl a b q

      second : (t : Bool) → (n == 2) ≡ t → (n == 1) ≡ false → IsMessage n bytes rest msg
      second true q a = let r : parse_at prepare bytes ≡ Good msg rest = rw (a, q) at e in to-kind n 2 bytes rest msg q (prepare-parts bytes rest msg r)
      second false q a = third (n == 3) refl a q

      first : (t : Bool) → (n == 1) ≡ t → IsMessage n bytes rest msg
      first true q = let r : parse_pre_prepare version bytes ≡ Good msg rest = rw q at e in to-kind n 1 bytes rest msg q (pre_prepare-parts bytes rest msg r)
      first false q = second (n == 2) refl q

  pub message-parts : (bytes rest : List ℕ) (msg : Message) → parse version bytes ≡ Good msg rest →
      IsText (fits version msg) (message_bytes version msg) bytes rest
  message-parts bytes rest msg e =
      let a = then_parts (such_that is_known byte) (fields_of version) bytes rest msg (rw parse-is at e) in
      let first = test_parts is_known byte bytes a.mid a.thing a.first in
      let behind = kind-parts a.thing a.mid rest msg first.1 a.second in
      record { parts = byte_parts bytes a.mid a.thing first.0 ∙ behind.parts; fits = behind.fits }

  kind-again : (n : ℕ) (bytes rest : List ℕ) (msg : Message) → is_known n ≡ true →
      fields_of version n (bytes ++ rest) ≡ Good msg rest → parse version ((n ∷ bytes) ++ rest) ≡ Good msg rest
  kind-again n bytes rest msg k h = rw parse-is (then_good (such_that is_known byte) (fields_of version) (n ∷ (bytes ++ rest)) (bytes ++ rest) rest n msg (test_passed is_known byte _ _ n (byte_again n (bytes ++ rest)) k) h)

  signed-again : (body : Body) (sig rest : List ℕ) → fits_signed version body sig ≡ true →
      parse version (signed_bytes version body sig ++ rest) ≡ Good (signed body sig) rest
  signed-again (Pre_prepare_body v slot x) sig rest e = kind-again 1 (at_bytes v slot.0 (spell_value version x ++ sig)) rest _ refl (pre_prepare-again v slot x sig rest e)
  signed-again (Prepare_body v slot d) sig rest e = kind-again 2 (at_bytes v slot.0 (d ++ sig)) rest _ refl (at-again prepare v slot d sig rest e)
  signed-again (Commit_body v slot d) sig rest e = kind-again 3 (at_bytes v slot.0 (d ++ sig)) rest _ refl (at-again commit v slot d sig rest e)
  signed-again (View_change_body v cs) sig rest e = kind-again 4 (change_bytes version v cs sig) rest _ refl (change_message-again v cs sig rest e)
  signed-again (New_view_body v xs sigs) sig rest e = kind-again 5 (to_be_bytes w16 v ++ (length xs ∷ (flat_map (node_change_bytes version) xs ++ (length sigs ∷ (flat_map as_is sigs ++ sig))))) rest _ refl (new_view-again v xs sigs sig rest e)

  pub message-again : (msg : Message) (rest : List ℕ) → fits version msg ≡ true →
      parse version (message_bytes version msg ++ rest) ≡ Good msg rest
  message-again msg rest e = signed-again msg.body msg.sig rest e

  -- an encoding that is the number of no message
  none : (rest : List ℕ) → IsBad (parse version (0 ∷ rest))
  none rest = (0, rw parse-is (first_bad (such_that is_known byte) (fields_of version) (0 ∷ rest) 0 (test_failed is_known byte (0 ∷ rest) rest 0 (byte_again 0 rest) refl)))

  whole : (msg : Message) (b : Bool) → fits version msg ≡ b → ((rest : List ℕ) → parse version (spell version msg ++ rest) ≡ Good msg rest) ⊎ ((rest : List ℕ) → IsBad (parse version (spell version msg ++ rest)))
  whole msg true q = inl (λ rest. rw q (message-again msg rest q))
  whole msg false q = inr (λ rest. rw q (none rest))

  pub message-grammar : IsGrammar (spell version) (parse version)
  message-grammar = record {
    only = λ bytes rest msg e. let t = message-parts bytes rest msg e in let fits_it : fits version msg ≡ true = t.fits in rw fits_it t.parts;
    whole = λ msg. whole msg (fits version msg) refl;
  }

  -- a message that is read from its encoding has one
  pub fits-read : (msg : Message) → ((rest : List ℕ) → parse version (spell version msg ++ rest) ≡ Good msg rest) →
      fits version msg ≡ true
  fits-read msg h = (message-parts (spell version msg ++ []) [] msg (h [])).fits

  pub fits-again : (msg : Message) → fits version msg ≡ true → IsReadAgain (spell version) (parse version) msg
  fits-again msg h rest = rw h (message-again msg rest h)
