mod CascadeLemmas
mod FunctionLemmas
mod KeyLemmas
mod StyleLemmas
