-- The fields that the code writes in sequence are the strings and statements.
use Rattle.std.proofs.Common.{◌≡◌, ◌<◌, ◌^◌, ℕ, List, [], ◌∷◌, ◌++◌, append_assoc, Option, Some, None, refl, sym, ap, ◌∙◌}
use Rattle.sha2.specs.Sha256.{sha256}
use Rattle.iss_request.specs.Digest.{digest}
use Rattle.iss_sb.specs.Evidence.{one_or_none}
use Rattle.iss_sb.specs.declared.content.Content.{Content}
use Rattle.hs_tree.specs.Hashed.{IsHashed, start_of}
use Rattle.std.specs.Int.{to_be_bytes, w16, w32}
use Rattle.iss_request.specs.Fields.{Written, and_bytes}
use Rattle.iss_sb.specs.declared.effects.Params.{Params}
use Rattle.iss_sb.specs.Statements.{claim, four_bytes, statement_head, two_bytes}
use Rattle.iss_sb.proofs.Statements.{four-is, two-is}
use Rattle.iss_sb.specs.declared.effects.Claim.{Claim}
use Rattle.std.specs.List.{flat_map}
use Rattle.iss_sb.specs.declared.signers.Signed.{Signed}
use Rattle.hs_tree.specs.Statements.{statement, vote_claims, vote_statement}
use Rattle.hs_tree.specs.Tree.{Form, kind_of, string_in, strings_of, value_digest, value_of, viewed_string}

abbrev start : ℕ → Written
start version = record { version = version; bytes = [] }

pub vote-written : (p : Params) (form : Form) (phase view : ℕ) (digest : List ℕ) (a b c d e : Written) → view < 2 ^ 32 → a.bytes ≡ statement_head p form.tag → b ≡ and_bytes a (6 ∷ []) → c ≡ and_bytes b (phase ∷ []) →
    d ≡ and_bytes c (to_be_bytes w32 view) → e ≡ and_bytes d digest → e.bytes ≡ vote_statement form p phase view digest
vote-written p form phase view digest a b c d e lt ha hb hc hd he = let same = four-is view lt in rw (he, hd, hc, hb, ha, same) (simp append_assoc)

pub node-written : (p : Params) (form : Form) (kind view : ℕ) (digest : List ℕ) (a b c d : Written) → view < 2 ^ 32 → a.bytes ≡ statement_head p form.tag → b ≡ and_bytes a (kind ∷ []) →
    c ≡ and_bytes b (to_be_bytes w32 view) → d ≡ and_bytes c digest → d.bytes ≡ statement form p kind (four_bytes view ++ digest)
node-written p form kind view digest a b c d lt ha hb hc hd = let same = four-is view lt in rw (hd, hc, hb, ha, same) (simp append_assoc)

pub round-written : (p : Params) (form : Form) (round view : ℕ) (a b c d : Written) → round < 2 ^ 16 → view < 2 ^ 32 → a.bytes ≡ statement_head p form.tag → b ≡ and_bytes a (1 ∷ []) →
    c ≡ and_bytes b (to_be_bytes w16 round) → d ≡ and_bytes c (to_be_bytes w32 view) → d.bytes ≡ statement form p 1 (two_bytes round ++ four_bytes view)
round-written p form round view a b c d low lt ha hb hc hd = let rounds = two-is round low in let views = four-is view lt in rw (hd, hc, hb, ha, rounds, views) (simp append_assoc)

-- ---- Claims

abbrev pub one_claim : List ℕ → Signed → List Claim
one_claim statement v = claim v.by.0 statement v.sig ∷ []

pub claims-flat : (statement : List ℕ) (votes : List Signed) → flat_map (one_claim statement) votes ≡ vote_claims statement votes
claims-flat statement [] = refl
claims-flat statement (v ∷ vs) = ap (λ (z : List Claim). claim v.by.0 statement v.sig ∷ z) (claims-flat statement vs)

-- ---- A node's strings

pub node-fed : (version kind : ℕ) (view : Option ℕ) (parent held : List ℕ) (what : Content) → kind ≡ kind_of what → held ≡ value_digest version (value_of what) →
    ((start_of view ++ parent) ++ kind ∷ []) ++ held ≡ string_in version view parent what
node-fed version kind None parent held what hk hh =
    ap (λ (z : List ℕ). 0x41 ∷ z) (append_assoc parent (kind ∷ []) held ∙ (λ i. parent ++ hk i ∷ hh i))
node-fed version kind (Some view) parent held what hk hh =
    ap (λ (z : List ℕ). 0x44 ∷ z) (append_assoc (four_bytes view ++ parent) (kind ∷ []) held ∙ (λ i. (four_bytes view ++ parent) ++ hk i ∷ hh i))

pub node-spelled : (version kind : ℕ) (view : Option ℕ) (parent held : List ℕ) (what : Content) (out a b c d : Written) → out.bytes ≡ [] → kind ≡ kind_of what → held ≡ value_digest version (value_of what) →
    a ≡ and_bytes out (start_of view) → b ≡ and_bytes a parent → c ≡ and_bytes b (kind ∷ []) → d ≡ and_bytes c held → d.bytes ≡ string_in version view parent what
node-spelled version kind view parent held what out a b c d h0 hk hh ha hb hc hd = rw (hd, hc, hb, ha, h0) (node-fed version kind view parent held what hk hh)

pub started : (out a b : Written) (view : ℕ) → view < 2 ^ 32 → a ≡ and_bytes out (0x44 ∷ []) → b ≡ and_bytes a (to_be_bytes w32 view) → b ≡ and_bytes out (start_of (Some view))
started out a b view lt ha hb =
    let same = four-is view lt in
    rw (hb, ha, same) (ap (λ (z : List ℕ). let r : Written = record { version = out.version; bytes = z } in r) (append_assoc out.bytes (0x44 ∷ []) (to_be_bytes w32 view)))

-- the bytes that go to the hasher, where the view is known to fit
pub viewed-fed : (version view kind : ℕ) (parent held : List ℕ) (what : Content) (be : List ℕ) → view < 2 ^ 32 → be ≡ to_be_bytes w32 view → kind ≡ kind_of what → held ≡ value_digest version (value_of what) →
    (((0x44 ∷ be) ++ parent) ++ kind ∷ []) ++ held ≡ viewed_string version view parent what
viewed-fed version view kind parent held what be lt hb hk hh =
    let same = hb ∙ sym (four-is view lt) in
    ap (λ (z : List ℕ). 0x44 ∷ z) (append_assoc (be ++ parent) (kind ∷ []) held ∙ (λ i. (same i ++ parent) ++ hk i ∷ hh i))

-- a node's string is not empty
not-empty : (version : ℕ) (view : Option ℕ) (parent : List ℕ) (what : Content) → sha256 (string_in version view parent what) ≡ digest (string_in version view parent what)
not-empty version None parent what = refl
not-empty version (Some view) parent what = refl

pub hashed-node : (version : ℕ) (view : Option ℕ) (parent : List ℕ) (what : Content) (value : Option (List ℕ)) (node bytes : List ℕ) (none mid all : List (List ℕ)) (d : List ℕ) → none ≡ [] → one_or_none value ≡ strings_of version (value_of what) →
    mid ≡ none ++ one_or_none value → all ≡ mid ++ node ∷ [] → node ≡ string_in version view parent what → bytes ≡ node → d ≡ sha256 bytes → IsHashed version view parent what (record { strings = all; digest = d })
hashed-node version view parent what value node bytes none mid all d hn hv hm ha is hb hd = record {
  strings = ha ∙ ap (λ (z : List (List ℕ)). z ++ node ∷ []) (hm ∙ ap (λ (z : List (List ℕ)). z ++ one_or_none value) hn ∙ hv) ∙ ap (λ (z : List ℕ). strings_of version (value_of what) ++ z ∷ []) is;
  digest_is = hd ∙ ap (λ (z : List ℕ). sha256 z) (hb ∙ is) ∙ not-empty version view parent what;
}
