-- What Raft decides decodes, if all that it took does: a decided value is that of a log entry.
use Rattle.std.proofs.Common.{◌≡◌, ℕ, Bool, true, false, if◌then◌else◌, ◌==◌, List, [], ◌∷◌, take, Some, refl, sym, subst, inl, inr}
use Rattle.iss_base.specs.Lists.{In}
use Rattle.iss_base.proofs.Lists.{in_append, some-injective}
use Rattle.iss_request.specs.Fields.{IsReadAgain}
use Rattle.iss_request.specs.Formats.{parse_value, spell_value}
use Rattle.iss_request.specs.declared.ids.Slot.{Slot}
use Rattle.iss_request.specs.declared.requests.Value.{Value}
use Rattle.iss_sb.specs.Content.{IsSpelledContent}
use Rattle.iss_sb.specs.Laws.{DecidesReadable}
use Rattle.iss_sb.specs.Paired.{value_with}
use Rattle.iss_sb.specs.declared.content.Content.{Content}
use Rattle.iss_sb.specs.declared.content.Content.TheVariants.{Nil, Holds, Mark}
use Rattle.iss_sb.proofs.Contents.{nil-value, table-batch}
use Rattle.raft_wire.specs.declared.entries.Entry.{Entry}
use Rattle.sb_raft.specs.Logs.{content, contents}
use Rattle.sb_raft.specs.Raft.{commit, raft, raft_log}
use Rattle.sb_raft.proofs.ModuleLaws.SentMessagesDecode.{ranged, take-in}

value-in : (s : ℕ) (ss : List Slot) (vs : List Value) (x : Value) → value_with s ss vs ≡ Some x → In x vs
value-in s [] vs x h = absurd cc
value-in s (t ∷ ts) [] x h = absurd cc
value-in s (t ∷ ts) (v ∷ vs) x h = go (t.0 == s) h (value-in s ts vs x)
  where
    go : (b : Bool) → (if b then Some v else value_with s ts vs) ≡ Some x → (value_with s ts vs ≡ Some x → In x vs) → In x (v ∷ vs)
    go true q more = inl (sym (some-injective v x q))
    go false q more = inr (more q)

-- a value of a log is that of one of its entries
from-entry : (es : List Entry) (x : Value) → In x (contents es) → (e : Entry) × In e es × In x (content e.what)
from-entry [] x h = absurd h
from-entry (e ∷ es) x h = elim (in_append x (content e.what) (contents es) h) [
  | inl here ↦ (e, inl refl, here)
  | inr later ↦ let r = from-entry es x later in (r.0, inr r.1, r.2)
]

module _ (version : ℕ) where
  abbrev Decodes : Value → Type 0
  Decodes x = IsReadAgain (spell_value version) (parse_value version) x

  content-decodes : (what : Content) (bytes : List ℕ) (x : Value) → IsSpelledContent version what bytes → In x (content what) → Decodes x
  content-decodes Nil bytes x h (inl q) = subst Decodes (sym q) (nil-value version)
  content-decodes Nil bytes x h (inr q) = absurd q
  content-decodes (Holds b) bytes x h (inl q) = subst Decodes (sym q) (table-batch version b bytes h)
  content-decodes (Holds b) bytes x h (inr q) = absurd q
  content-decodes Mark bytes x h q = absurd q

pub raft-decides-readable : DecidesReadable raft
raft-decides-readable p me xs s x good below heard h =
    let log : List Entry = raft_log p me xs in
    let r = from-entry (take (commit p me xs) log) x (value-in s p.slots (contents (take (commit p me xs) log)) x h) in
    let has = (ranged p good me xs heard).entries r.0 (take-in (commit p me xs) r.0 log r.1) in
    content-decodes p.setup.version r.0.what has.spelled.behind x has.spelled.what r.2
