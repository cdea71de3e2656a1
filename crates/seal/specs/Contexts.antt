-- What a note is sealed under, of the code's record of it.
use Rattle.seal.specs.Seal.{Context, context}
use Rattle.seal.specs.declared.NoteContext.{NoteContext}

-- the context of its parts
abbrev pub context_of : NoteContext → Context
context_of c = context c.field c.key.now c.nonce.now c.separator.now c.lengths.now
