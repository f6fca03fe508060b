-- A reply's numbers as the code holds them, in the words of the rules.
use Rattle.rules.specs.Replies as replies
use Rattle.named.specs.declared.Answer.{Answer}

abbrev pub told : Answer → replies.Answer
told a = record { number = a.number; value = a.value; waiting = a.waiting; stopped = a.stopped }
