-- What the lemmas on listings and on commands speak of.
pub use Rattle.std.specs.Prelude.{Bool, IfSome, IsTrue, decimal, false, true, ⊤}
pub use Rattle.std.specs.declared.io.Error.{Error}
pub use Rattle.x86_cli.specs.Commands.Make.{made_listing}
pub use Rattle.x86_cli.specs.Commands.Program.{EndsAt, Has, HasOfAll, HasOfTaken, Leaves}
pub use Rattle.x86_cli.specs.Commands.Request.{full_listing, known_for, listing_for, max_of, taken_listing, task_of}
pub use Rattle.x86_cli.specs.DecoderLaws.{DecoderLaws}
pub use Rattle.x86_cli.specs.Listings.Line.{line}
pub use Rattle.x86_cli.specs.Listings.Listing.{Listing, at_end, with_lines}
pub use Rattle.x86_cli.specs.Listings.Performs.{ByRule, IsEnd, IsPrinted, Performs, Task}
pub use Rattle.x86_cli.specs.declared.commands.command.Command.{Command}
pub use Rattle.x86_cli.specs.declared.listings.status.Finished.{Finished}
pub use Rattle.x86_cli.specs.declared.listings.status.Status.{Status}
pub use Rattle.x86_decode.specs.Answer.{answer_of, count_of}
pub use Rattle.x86_decode.specs.declared.instructions.Instruction.{Instruction}
pub use Rattle.x86_fields.specs.declared.errors.DecodeError.{DecodeError}
pub use Rattle.x86_streams.specs.Outside.Chain.{Call, Calls, WriterCalls, EndsIn, Fails, Flush, FlushesOnce, Interruptions, IsFlush, Puts}
pub use Rattle.x86_streams.specs.Outside.Chain.{Read, ReadsOnce, Sends, SendsAll, Uninterrupted, Write, WritesOnce, not_taken, received}
pub use Rattle.x86_streams.specs.Outside.Chain.{sent, stop_of}
pub use Rattle.x86_streams.specs.Outside.Stop.{End, Failed, Stop}
pub use Rattle.x86_streams.specs.Text.{Text, text_at, text_of}
pub use Rattle.x86_streams.specs.Text.Window.{rest_of}
pub use Rattle.x86_streams.specs.declared.text.reader.Ending.{Ending}
