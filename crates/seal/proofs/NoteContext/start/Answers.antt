-- `seal::NoteContext::start` meets its contract.
-- Assumes nothing.
use mathlib.Core.Path.{◌≡◌, ap, ap₂, ◌∙◌}
use mathlib.Core.List.{List}
use Prim.Native.Nat.{ℕ}
use Rattle.pattern.specs.Opening.{opening}
use Rattle.session.specs.Calls.{start, absorb}
use Rattle.session.specs.declared.Session.{Session}
use Rattle.seal.specs.Seal.{note_form, started, keyed}
use Rattle.seal.specs.Contexts.{context_of}
use Rattle.seal.proofs.Calls.{is_ok_law, given_number, given_session, start_number_law, start_session_law}
use Rattle.seal.proofs.NoteContext.start.Goals as goal
use Rattle.seal.proofs.NoteContext.start.Goals.{After-unwrap-session}

pub unwrap-session-requires : goal.unwrap-session-requires
unwrap-session-requires c =
    let s = c.args.self.now in
    is_ok_law _
    (start_number_law _ c.start.ensures
    ∙ ap (λ (ws : List ℕ). (start s.field note_form (opening ws s.separator.now)).number) (c.as_slice.ensures ∙ c.declare-words.ensures)
    ∙ c.requires.start)

-- the session that START opens
opened : (c : After-unwrap-session) → c.unwrap-session.result ≡ started (context_of c.args.self.now)
unfolding started
opened c =
    let s = c.args.self.now in
    start_session_law _ _ c.unwrap-session.ensures c.start.ensures
    ∙ ap (λ (ws : List ℕ). (start s.field note_form (opening ws s.separator.now)).session) (c.as_slice.ensures ∙ c.declare-words.ensures)

pub unwrap-requires : goal.unwrap-requires
unwrap-requires c =
    is_ok_law _
    (given_number _ _ c.absorb.ensures
    ∙ ap₂ (λ (r : Session) (l : List ℕ). (absorb r l).number) (opened (goal.at.unwrap-requires c).After-unwrap-session) c.key_and_nonce.ensures
    ∙ c.requires.absorb)

pub returns : goal.returns
unfolding keyed
returns c =
    given_session _ _ c.absorb.ensures
    ∙ ap₂ (λ (r : Session) (l : List ℕ). (absorb r l).session) (opened (goal.at.returns c).After-unwrap-session) c.key_and_nonce.ensures
